-- The bytes of a word and of a row of cells.
use Rattle.std.specs.Prelude.{ℕ, List, ◌++◌, Some, None, Option, codes, decimal, flat_map}
use Rattle.codes.specs.declared.cell.Cell.{Cell}

-- a space and the letter
abbrev pub letter_text : ℕ → List ℕ
letter_text letter = codes " " ++ decimal letter

-- a space, and the letter or '?'
abbrev pub cell_text : Option ℕ → List ℕ
cell_text None = codes " ?"
cell_text (Some letter) = letter_text letter

abbrev pub word_text : List ℕ → List ℕ
word_text word = flat_map letter_text word

abbrev pub cells_text : List Cell → List ℕ
cells_text cells = flat_map (λ (cell : Cell). cell_text cell.letter) cells
