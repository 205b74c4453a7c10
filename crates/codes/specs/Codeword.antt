-- Codewords.
use Rattle.std.specs.Prelude.{◌≡◌, ℕ, ◌<◌, List, length, slice_index}
use Rattle.algebra.specs.Meaning.{Arithmetic}
use Rattle.algebra.specs.Power.{times_power, sum}
use Rattle.codes.specs.Code.{Code}

-- the sum of row k over all letters of a word: letter × multiplier × locator^k of each
abbrev pub row_sum : Arithmetic → Code → List ℕ → ℕ → ℕ
row_sum A code word k =
    sum A (length word)
    (λ j. times_power A (A.times (slice_index word j) (slice_index code.multipliers j))
    (slice_index code.locators j) k)

-- a letter below the alphabet size for each cell, and all row sums 0
pub record Codeword (A : Arithmetic) (code : Code) (word : List ℕ) : Type 0 where
  pub long : length word ≡ length code.locators
  pub lettered : (j : ℕ) → j < length word → slice_index word j < code.letters
  pub zeros : (k : ℕ) → k < code.rows → row_sum A code word k ≡ 0
