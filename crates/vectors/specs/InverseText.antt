-- How an inverse is shown.
use Rattle.std.specs.Prelude.{ℕ, List, Option, Some, None, codes}
use Rattle.codes.specs.WordText.{letter_text}

-- a space, and the inverse or '-'
abbrev pub inverse_text : Option ℕ → List ℕ
inverse_text None = codes " -"
inverse_text (Some b) = letter_text b
