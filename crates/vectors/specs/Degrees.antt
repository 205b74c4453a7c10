-- The coefficients that are shown of a polynomial.
use Rattle.std.specs.Prelude.{◌≡◌, ◌≢◌, ℕ, ◌+◌, ◌<◌, ◌≤◌, List, length, take, slice_index}

-- The front of the coefficients up to the last that is not 0, and only zeros after it; the constant
-- term is shown in any case.
pub record UpToDegree (coefficients shown : List ℕ) : Type 0 where
  pub front : shown ≡ take (length shown) coefficients
  pub rest : (i : ℕ) → length shown ≤ i → i < length coefficients → slice_index coefficients i ≡ 0
  pub constant : 0 < length coefficients → 0 < length shown
  pub last : (i : ℕ) → 0 < i → length shown ≡ i + 1 → slice_index coefficients i ≢ 0
