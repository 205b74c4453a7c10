-- The cases that were tried by hand.
use Rattle.std.specs.Prelude.{ℕ, List, [], ◌∷◌, ◌++◌, replicate}
use Rattle.algebra.specs.Meaning.{Arithmetic, Meaning, with_inverses}
use Rattle.fields.specs.Modulo.{modulo}
use Rattle.fields.specs.BinaryArithmetic.{modulo_polynomial}
use Rattle.codes.specs.Code.{Code}
use Rattle.codes.specs.Cells.{blank_cell, noted_cell, noted}
use Rattle.codes.specs.declared.cell.Cell.{Cell}
use Rattle.decoding.specs.encoding.CodeExamples.{modulo_seven, small_code}
use Rattle.hand_tried.specs.Outcomes.{Shows, Refuses, SumsTo, EncodesTo, RealisesTo}

-- The first card is modulo 7, with seven letters, four rows, locators 0 to 5 and multipliers 1:
-- `small_code`.

-- The second is modulo X³ + X + 1, with two rows, locators 1 to 7 and multipliers equal to them,
-- and with eight letters or two.
abbrev pub modulo_eleven : Meaning
modulo_eleven = with_inverses (modulo_polynomial 11 3)

abbrev pub seven_cells : ℕ → Code
seven_cells letters = record {
  letters = letters;
  rows = 2;
  locators = 1 ∷ 2 ∷ 3 ∷ 4 ∷ 5 ∷ 6 ∷ 7 ∷ [];
  multipliers = 1 ∷ 2 ∷ 3 ∷ 4 ∷ 5 ∷ 6 ∷ 7 ∷ [];
}

-- so many blank cells, and then these letters
abbrev pub blanks_then : ℕ → List ℕ → List Cell
blanks_then n letters = replicate n blank_cell ++ noted letters

-- 1 ? 0 ? 0 0 0
abbrev pub two_gaps : List Cell
two_gaps = noted_cell 1 ∷ blank_cell ∷ noted_cell 0 ∷ blank_cell ∷ noted (0 ∷ 0 ∷ 0 ∷ [])

-- the letters 1 5 3 4 0 6, of which the second and the fifth are wrong
pub record TwoWrong : Type 0 where
  -- the sums are 5 4 0 5
  pub sums : SumsTo (modulo 7) small_code (noted (1 ∷ 5 ∷ 3 ∷ 4 ∷ 0 ∷ 6 ∷ [])) (5 ∷ 4 ∷ 0 ∷ 5 ∷ [])
  -- these have the pair 2 + X + 4X², 6X
  pub pair : RealisesTo (modulo 7) (5 ∷ 4 ∷ 0 ∷ 5 ∷ []) 2 (2 ∷ 1 ∷ 4 ∷ replicate 62 0)
      (0 ∷ 6 ∷ replicate 63 0)
  -- both are mended
  pub reads : Shows modulo_seven small_code (noted (1 ∷ 5 ∷ 3 ∷ 4 ∷ 0 ∷ 6 ∷ []))
      (1 ∷ 2 ∷ 3 ∷ 4 ∷ 5 ∷ 6 ∷ []) 2 0

-- the cells 1 ? 0 ? 0 0 0 on the second card
pub record TwoGaps : Type 0 where
  -- eight letters fill both blanks
  pub of_eight : Shows modulo_eleven (seven_cells 8) two_gaps (1 ∷ 2 ∷ 0 ∷ 6 ∷ 0 ∷ 0 ∷ 0 ∷ []) 0 2
  -- with two letters nothing fills them
  pub of_two : Refuses modulo_eleven (seven_cells 2) two_gaps 24

pub record HandTried : Type 0 where
  -- 1 2 3 4 5 6 reads as it stands
  pub undamaged : Shows modulo_seven small_code (noted (1 ∷ 2 ∷ 3 ∷ 4 ∷ 5 ∷ 6 ∷ []))
      (1 ∷ 2 ∷ 3 ∷ 4 ∷ 5 ∷ 6 ∷ []) 0 0
  -- 1 5 3 4 0 6 reads 1 2 3 4 5 6
  pub two_wrong : TwoWrong
  -- ? ? 3 4 0 6 reads 1 2 3 4 5 6
  pub two_blank_one_wrong : Shows modulo_seven small_code (blanks_then 2 (3 ∷ 4 ∷ 0 ∷ 6 ∷ []))
      (1 ∷ 2 ∷ 3 ∷ 4 ∷ 5 ∷ 6 ∷ []) 1 2
  -- ? ? ? 4 0 6 is lost
  pub three_blank_one_wrong : Refuses modulo_seven small_code (blanks_then 3 (4 ∷ 0 ∷ 6 ∷ [])) 24
  -- ? ? ? ? 0 6 reads 3 1 1 3 0 6: with four blanks a wrong letter cannot show
  pub four_blank : Shows modulo_seven small_code (blanks_then 4 (0 ∷ 6 ∷ []))
      (3 ∷ 1 ∷ 1 ∷ 3 ∷ 0 ∷ 6 ∷ []) 0 4
  -- ? ? ? ? ? 6 is too blank
  pub five_blank : Refuses modulo_seven small_code (blanks_then 5 (6 ∷ [])) 23
  -- 1 5 3 4 0 0 is lost
  pub three_wrong : Refuses modulo_seven small_code (noted (1 ∷ 5 ∷ 3 ∷ 4 ∷ 0 ∷ 0 ∷ [])) 24
  -- 0 2 is encoded as 0 2 6 5 6 2
  pub encoded : EncodesTo modulo_seven small_code (0 ∷ 2 ∷ []) (0 ∷ 2 ∷ 6 ∷ 5 ∷ 6 ∷ 2 ∷ [])
  -- 1 ? 0 ? 0 0 0 reads 1 2 0 6 0 0 0, or is lost, by the alphabet
  pub two_gaps_read : TwoGaps
  -- the empty sequence has the pair 1, 0, whatever the arithmetic
  pub empty_pair : (A : Arithmetic) → RealisesTo A [] 0 (1 ∷ replicate 64 0) (replicate 65 0)
