-- Whole numbers modulo a listed prime.
use Rattle.std.specs.Prelude.{◌≡◌, ℕ, ◌+◌, ◌-◌, ◌*◌, ◌%◌, ◌<◌, ◌≤◌, Bool, true, false, ◌||◌, List, [], ◌∷◌, ◌==◌, ◌≢◌}
use Rattle.algebra.specs.Meaning.{Arithmetic, arithmetic_of}

-- the primes that a field may be made from
abbrev pub listed_primes : List ℕ
listed_primes = 2 ∷ 3 ∷ 5 ∷ 7 ∷ 11 ∷ 13 ∷ 17 ∷ 19 ∷ 23 ∷ 29 ∷ 31 ∷ 37 ∷ 251 ∷ []

-- whether p is one of the numbers of a list
unfoldable pub stands_in : ℕ → List ℕ → Bool
stands_in p [] = false
stands_in p (x ∷ xs) = p == x || stands_in p xs

abbrev pub Listed : ℕ → Type 0
Listed p = stands_in p listed_primes ≡ true

-- a number from 2 on that no smaller one from 2 on divides
pub record Prime (p : ℕ) : Type 0 where
  pub two : 2 ≤ p
  pub no_divisor : (d : ℕ) → 2 ≤ d → d < p → p % d ≢ 0

-- sums, differences and products of the numbers below p, each reduced to its remainder after
-- division by p
abbrev pub modulo : ℕ → Arithmetic
modulo p = arithmetic_of p (λ a b. (a + b) % p) (λ a b. (a + (p - b)) % p) (λ a b. (a * b) % p)
