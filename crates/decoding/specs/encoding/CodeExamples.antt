-- Worked examples of the definitions.
use Rattle.std.specs.Prelude.{◌≡◌, [], ◌∷◌}
use Rattle.algebra.specs.Meaning.{Meaning, with_inverses}
use Rattle.fields.specs.Modulo.{modulo}
use Rattle.codes.specs.Code.{Code}
use Rattle.decoding.specs.encoding.Encodings.{encoding}

abbrev pub modulo_seven : Meaning
modulo_seven = with_inverses (modulo 7)

-- modulo 7, with locators 0 to 5, multipliers 1 and four rows
abbrev pub small_code : Code
small_code = record {
  letters = 7;
  rows = 4;
  locators = 0 ∷ 1 ∷ 2 ∷ 3 ∷ 4 ∷ 5 ∷ [];
  multipliers = 1 ∷ 1 ∷ 1 ∷ 1 ∷ 1 ∷ 1 ∷ [];
}

-- 0 2 is encoded as 0 2 6 5 6 2
abbrev pub EncodingExample : Type 0
EncodingExample = encoding modulo_seven small_code (0 ∷ 2 ∷ []) ≡ 0 ∷ 2 ∷ 6 ∷ 5 ∷ 6 ∷ 2 ∷ []
