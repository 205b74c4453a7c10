-- The polynomials that house rows are made from are moduli of the binary kind: a computed test.
use Rattle.std.proofs.Common.{◌≡◌, ℕ, zero, suc, ◌/◌, ◌^◌, ◌<◌, ◌≤◌, Bool, true, not, ◌&&◌, ◌||◌, eqb, ltb, sym, refl, subst, ⊎_elim, arith, lit≤}
use Rattle.std.proofs.lemmas.Bool.{and_parts, or_cases, not-true, eqb-false, ltb-true, cases_eq}
use Rattle.fields.specs.LongDivision.{Degree, remainder}
use Rattle.fields.specs.Binary.{BinaryModulus}
use Rattle.fields.specs.PolynomialDegrees.{degree_below}
use Rattle.fields.specs.PolynomialFactors.{trial_division}

-- whether all numbers below n pass a test
all_below : (ℕ → Bool) → ℕ → Bool
all_below test zero = true
all_below test (suc n) = test n && all_below test n

all_below_at : (test : ℕ → Bool) (n : ℕ) → all_below test n ≡ true → (d : ℕ) → d < n → test d ≡ true
unfolding all_below
all_below_at test zero t d h = absurd (omega arith)
all_below_at test (suc n) t d h =
    let parts = and_parts _ _ t in
    ⊎_elim (λ (e : d ≡ n). subst (λ (x : ℕ). test x ≡ true) (sym e) parts.0) (λ other. all_below_at test n parts.1 d (omega arith)) (cases_eq d n)

-- d has another degree than k, or leaves a remainder
no_divisor : ℕ → ℕ → ℕ → Bool
no_divisor f d k = not (eqb (d / 2 ^ k) 1) || not (eqb (remainder d k f) 0)

-- no polynomial of degree 1 or more and at most h divides f
divisor_free : ℕ → ℕ → Bool
divisor_free f h = all_below (λ d. ltb d 2 || all_below (no_divisor f d) (suc h)) (2 ^ suc h)

divisor_free_is : (f h : ℕ) → divisor_free f h ≡ true → (d k : ℕ) → 2 ≤ d → d < 2 ^ suc h → Degree d k → remainder d k f ≡ 0 → ⊥
unfolding divisor_free no_divisor
divisor_free_is f h t d k two below degree divides =
    ⊎_elim (λ small. let lt = ltb-true d 2 small in omega arith)
    (λ none. ⊎_elim (λ other. eqb-false _ _ (not-true _ other) degree) (λ rest. eqb-false _ _ (not-true _ rest) divides) (or_cases _ _ (all_below_at (no_divisor f d) (suc h) none k (degree_below d k (suc h) degree below))))
    (or_cases _ _ (all_below_at _ (2 ^ suc h) t d below))

pub modulus_285 : BinaryModulus 285 8
unfolding divisor_free no_divisor all_below remainder
modulus_285 = record { irreducible = trial_division 285 8 (lit≤ tt) refl (divisor_free_is 285 4 refl); degree = refl; bounded = lit≤ tt }

pub modulus_67 : BinaryModulus 67 6
unfolding divisor_free no_divisor all_below remainder
modulus_67 = record { irreducible = trial_division 67 6 (lit≤ tt) refl (divisor_free_is 67 3 refl); degree = refl; bounded = lit≤ tt }
