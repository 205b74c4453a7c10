-- Lemmas: proved, nothing here is to be believed.
-- The listed numbers are primes of at most the largest size: one test over the list.
use Rattle.std.specs.Prelude.{◌≡◌, ℕ, zero, suc, ◌%◌, ◌<◌, ◌≤◌, Bool, true, not, ◌&&◌, ◌||◌, List, [], ◌∷◌, ◌==◌, ◌≢◌, nat_le, nat_lt, refl}
use Rattle.std.proofs.Common.{sym, ◌∙◌, ap, subst, ⊎_elim, arith}
use Rattle.std.specs.List.{ContainsAt as Has}
use Rattle.std.proofs.lemmas.Bool.{eqb-true, eq-eqb, leb-true, ltb-true, and_parts, or_cases, or_left, or_right, not-true, eqb-false, cases_eq, both_ways}
use Rattle.algebra.specs.Limits.{largest_size}
use Rattle.fields.specs.Modulo.{stands_in, listed_primes, Listed, Prime}

-- no number from 2 on and below n divides p
divisor_free : ℕ → ℕ → Bool
divisor_free p zero = true
divisor_free p (suc d) = (nat_lt d 2 || not (p % d == 0)) && divisor_free p d

divisor_free_is : (p n : ℕ) → divisor_free p n ≡ true → (d : ℕ) → 2 ≤ d → d < n → p % d ≢ 0
unfolding divisor_free
divisor_free_is p zero t d two below divides = omega arith
divisor_free_is p (suc n) t d two below divides =
    ⊎_elim here (λ other. divisor_free_is p n both.1 d two (omega arith) divides) (cases_eq d n)
  where
    both : ((nat_lt n 2 || not (p % n == 0)) ≡ true) × (divisor_free p n ≡ true)
    both = and_parts _ _ t

    here : d ≡ n → ⊥
    here is =
        ⊎_elim (λ small. let lt = ltb-true n 2 small in omega arith)
        (λ none. eqb-false (p % n) 0 (not-true _ none) (ap (λ x. p % x) (sym is) ∙ divides))
        (or_cases _ _ both.0)

fit : ℕ → Bool
fit p = nat_le 2 p && (nat_le p largest_size && divisor_free p p)

every : (ℕ → Bool) → List ℕ → Bool
every test [] = true
every test (x ∷ xs) = test x && every test xs

every_at : (test : ℕ → Bool) (xs : List ℕ) (p : ℕ)
    → every test xs ≡ true → stands_in p xs ≡ true → test p ≡ true
unfolding every stands_in
every_at test [] p all stands = absurd (both_ways _ refl stands)
every_at test (x ∷ xs) p all stands =
    let parts = and_parts _ _ all in
    ⊎_elim (λ is. subst (λ (y : ℕ). test y ≡ true) (sym (eqb-true p x is)) parts.0)
    (λ later. every_at test xs p parts.1 later) (or_cases _ _ stands)

all_fit : every fit listed_primes ≡ true
unfolding every fit divisor_free
all_fit = refl

listed_fit : (p : ℕ) → Listed p
    → (nat_le 2 p ≡ true) × (nat_le p largest_size ≡ true) × (divisor_free p p ≡ true)
unfolding fit
listed_fit p listed =
    let outer = and_parts _ _ (every_at fit listed_primes p all_fit listed) in
    let inner = and_parts _ _ outer.1 in
    (outer.0, inner.0, inner.1)

pub listed_prime : (p : ℕ) → Listed p → Prime p
listed_prime p listed =
    let f = listed_fit p listed in record
    { two = leb-true 2 p f.0; no_divisor = divisor_free_is p p f.2 }

pub listed_small : (p : ℕ) → Listed p → p ≤ largest_size
listed_small p listed = leb-true p largest_size (listed_fit p listed).1

-- what `contains` finds in a list is what stands in it
pub stands_from_has : (xs : List ℕ) (p : ℕ) → Has xs p → stands_in p xs ≡ true
unfolding stands_in
stands_from_has [] p h = let below = h.1 in absurd (omega arith)
stands_from_has (x ∷ xs) p (zero, below, at) = or_left _ _ (eq-eqb p x (sym (at 0)))
stands_from_has (x ∷ xs) p (suc k, below, at) =
    or_right _ _ (stands_from_has xs p (k, omega arith, λ d. at d))

pub has_from_stands : (xs : List ℕ) (p : ℕ) → stands_in p xs ≡ true → Has xs p
unfolding stands_in
has_from_stands [] p s = absurd (both_ways _ refl s)
has_from_stands (x ∷ xs) p s =
    ⊎_elim (λ is. (0, omega arith, λ d. sym (eqb-true p x is)))
    (λ later. let h = has_from_stands xs p later in let below = h.1 in
    (suc h.0, omega arith, λ d. h.2 d)) (or_cases _ _ s)
