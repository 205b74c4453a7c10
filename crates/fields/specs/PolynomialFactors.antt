-- Lemmas: proved, nothing here is to be believed.
-- Irreducible polynomials: what divides one, and trial division.
use Rattle.std.specs.Prelude.{◌≡◌, ℕ, zero, suc, ◌+◌, ◌/◌, ◌^◌, ◌<◌, ◌≤◌, ◌≢◌, bit_xor}
use Rattle.std.proofs.Common.{sym, ap, subst, ◌∙◌, ⊎_elim, arith, pow_pos, pow_mono}
use Rattle.std.specs.Int.Bits.{xor_zero_r}
use Rattle.std.proofs.lemmas.Bool.{cases_lt}
use Rattle.fields.specs.CarrylessProduct.{◌⊗◌}
use Rattle.fields.specs.LongDivision.{Degree, remainder}
use Rattle.fields.specs.Irreducible.{Irreducible, Factored}
use Rattle.fields.specs.PolynomialRing.{zero_product, one_product, product_comm}
use Rattle.fields.specs.PolynomialDegrees.{has_degree, degree_ge, degree_lt, degree_below, degree_above, degree_product}
use Rattle.fields.specs.PolynomialDivision.{remainder_divides, remainder_unique}

-- the remainder is 0 exactly where the divisor is a factor
pub factor_from : (d k a : ℕ) → Degree d k → remainder d k a ≡ 0 → (q : ℕ) × (a ≡ q ⊗ d)
factor_from d k a e z =
    let r = remainder_divides d k a e in
    (r.quotient, r.divides ∙ ap (bit_xor (r.quotient ⊗ d)) z ∙ xor_zero_r (r.quotient ⊗ d))

pub factor_to : (d k q a : ℕ) → Degree d k → a ≡ q ⊗ d → remainder d k a ≡ 0
factor_to d k q a e is =
    remainder_unique d k a 0 e
    (record { quotient = q; divides = is ∙ sym (xor_zero_r (q ⊗ d)); small = pow_pos k })

-- a number from 2 on below an irreducible f is no factor of it
pub no_factor : (f q d : ℕ) → Irreducible f → 2 ≤ d → d < f → f ≡ q ⊗ d → ⊥
no_factor f zero d i l h e = let z = e ∙ zero_product d in omega arith
no_factor f (suc zero) d i l h e = let z = e ∙ one_product d in omega arith
no_factor f (suc (suc q)) d i l h e = i.no_product (suc (suc q)) d (omega arith) l (sym e)

-- Trial division: of two factors one has at most half the degree of the product, so it is enough to
-- try these.
pub trial_division : (f m : ℕ) → 2 ≤ f → Degree f m
    → ((d k : ℕ) → 2 ≤ d → d < 2 ^ suc (m / 2) → Degree d k → remainder d k f ≢ 0)
    → Irreducible f
trial_division f m l p none = record { no_constant = l; no_product = product }
  where
    small : (a b i : ℕ) → 2 ≤ a → Degree a i → i ≤ m / 2 → a ⊗ b ≡ f → ⊥
    small a b i la da h e =
        let h : 2 ^ suc i ≤ 2 ^ suc (m / 2) = pow_mono (omega arith) in
        none a i la (omega (arith, degree_lt a i da)) da
        (factor_to a i b f da (sym e ∙ product_comm a b))

    product : (a b : ℕ) → 2 ≤ a → 2 ≤ b → a ⊗ b ≡ f → ⊥
    product a b la lb e =
        let (i, da) = has_degree a (omega arith) in
        let (j, db) = has_degree b (omega arith) in
        let s : i + j < suc m = degree_below f (i + j) (suc m)
        (subst (λ (x : ℕ). Degree x (i + j)) e (degree_product i j a b da db)) (degree_lt f m p)
        in
        ⊎_elim (λ (h : i < suc (m / 2)). small a b i la da (omega arith) e)
        (λ (h : suc (m / 2) ≤ i). small b a j lb db (omega arith) (product_comm b a ∙ e))
        (cases_lt i (suc (m / 2)))

-- a divisor from 2 on that leaves no remainder is a factor, and so is the quotient
pub trial_factors : (f m d k : ℕ) → 2 ≤ f → Degree f m
    → 2 ≤ d → d < 2 ^ suc (m / 2) → Degree d k → remainder d k f ≡ 0 → Factored f
trial_factors f m d k two df l h dd z =
    let (q, e) = factor_from d k f dd z in
    let hi = degree_below d k (suc (m / 2)) dd h in
    let lo = degree_above d k 1 dd l in
    let p : 2 ^ suc k ≤ 2 ^ m = pow_mono (omega arith) in
    let less : d < f = omega (arith, degree_lt d k dd, degree_ge f m df) in
    (q, d, two_or_more q d f two less e, l, sym e)
  where
    two_or_more : (q d f : ℕ) → 2 ≤ f → d < f → f ≡ q ⊗ d → 2 ≤ q
    two_or_more zero d f two less e = let z = e ∙ zero_product d in absurd (omega arith)
    two_or_more (suc zero) d f two less e = let z = e ∙ one_product d in absurd (omega arith)
    two_or_more (suc (suc q)) d f two less e = omega arith
