-- The plain values of a code.
use Rattle.std.specs.Prelude.{ℕ, List}
use Rattle.codes.specs.declared.code.CodeRef.{CodeRef}

pub record Code : Type 0 where
  -- the alphabet size: the letters are the numbers below it
  pub letters : ℕ
  -- how many sums a codeword makes 0
  pub rows : ℕ
  -- one locator and one multiplier for each cell
  pub locators : List ℕ
  pub multipliers : List ℕ

abbrev pub code_with : ℕ → ℕ → List ℕ → List ℕ → Code
code_with letters rows locators multipliers =
    record { letters = letters; rows = rows; locators = locators; multipliers = multipliers }

abbrev pub code_of : CodeRef → Code
code_of c =
    record {
      letters = c.letters;
      rows = c.rows;
      locators = c.locators.now;
      multipliers = c.multipliers.now;
    }
