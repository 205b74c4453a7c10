-- Which numbers may be letters.
use Rattle.std.specs.Prelude.{ℕ, ◌<◌, ◌≤◌}
use Rattle.algebra.specs.Meaning.{Arithmetic}

-- The numbers below `letters` are an alphabet when there are at least two of them, all are
-- elements, and every sum, difference and product of two of them is one of them.
pub record Alphabet (A : Arithmetic) (letters : ℕ) : Type 0 where
  pub two : 2 ≤ letters
  pub elements : letters ≤ A.size
  pub plus_closed : (a b : ℕ) → a < letters → b < letters → A.plus a b < letters
  pub minus_closed : (a b : ℕ) → a < letters → b < letters → A.minus a b < letters
  pub times_closed : (a b : ℕ) → a < letters → b < letters → A.times a b < letters
