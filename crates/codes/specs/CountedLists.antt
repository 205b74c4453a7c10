-- Lemmas: proved, nothing here is to be believed.
-- Lists of numbers one after another, and of ones, as a card's locators and multipliers.
use Rattle.std.proofs.Common.{◌≡◌, ℕ, ◌+◌, ◌<◌, ◌≤◌, length, get_or, replicate, arith}
use lib.ListN.{length-replicate, get_or-replicate}
use Rattle.std.specs.List.{range_with_len}
use Rattle.std.proofs.lemmas.List.FromFn.{length-range_with_len, get_or-range_with_len}
use Rattle.algebra.specs.Meaning.{Arithmetic}
use Rattle.algebra.specs.Theorems.{Locators, Multipliers}

module _ (A : Arithmetic) where
  -- the n numbers from a on are distinct
  pub counting_fit : (a n : ℕ) → a + n ≤ A.size
      → Locators A (length (range_with_len a n)) (λ j. get_or (range_with_len a n) j 0)
  counting_fit a n h = record {
    element = λ j l. let long = length-range_with_len a n in omega
        (arith, get_or-range_with_len a n j 0 (omega arith));
    distinct = λ i j li lj e.
        let long = length-range_with_len a n in omega (
          arith,
          get_or-range_with_len a n i 0 (omega arith),
          get_or-range_with_len a n j 0 (omega arith),
        );
  }

  -- none of them is 0 where a is not
  pub counting_nonzero : (a n : ℕ) → 1 ≤ a → a + n ≤ A.size
      → Multipliers A (length (range_with_len a n)) (λ j. get_or (range_with_len a n) j 0)
  counting_nonzero a n p h = record {
    element = (counting_fit a n h).element;
    nonzero = λ j l e. let long = length-range_with_len a n in omega
        (arith, get_or-range_with_len a n j 0 (omega arith));
  }

  pub ones_fit : (n : ℕ) → 2 ≤ A.size
      → Multipliers A (length (replicate {A = ℕ} n 1)) (λ j. get_or (replicate n 1) j 0)
  ones_fit n h =
      record { element = λ j l. omega (arith, one j l); nonzero = λ j l e. omega (arith, one j l) }
    where
      one : (j : ℕ) → j < length (replicate {A = ℕ} n 1) → get_or {A = ℕ} (replicate n 1) j 0 ≡ 1
      one j l = get_or-replicate n j 1 0 (omega (arith, length-replicate {A = ℕ} n 1))
