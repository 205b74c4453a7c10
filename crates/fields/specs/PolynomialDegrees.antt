-- Lemmas: proved, nothing here is to be believed.
-- Degrees: each polynomial other than 0 has one, and that of a product is the sum.
use Rattle.std.specs.Prelude.{◌≡◌, ℕ, zero, suc, ◌+◌, ◌*◌, ◌/◌, ◌%◌, ◌^◌, ◌<◌, ◌≤◌, ◌≢◌, bit_xor}
use Rattle.std.proofs.Common.{sym, ap, ap₂, ◌∙◌, ⊎_elim, arith, zero-add, suc-add, one-mul, pow-suc, div-one, div-lt_iff_lt-mul, le-div_iff_mul-le, eq-zero-or-pos, mul-le-mul_right, le_antisymm, pow_pos, pow_mono}
use Rattle.std.proofs.Math.Nat.{pow-succ', div-div-eq-div-mul, div-eq_of_lt, div-eq_of_lt-le, mul-div-mul_right}
use Rattle.std.proofs.lemmas.Nat.{xor_shr}
use Rattle.std.proofs.Math.Arith.{bin_ind}
use Rattle.std.proofs.lemmas.Bool.{cases_lt}
use Rattle.fields.specs.CarrylessProduct.{◌⊗◌}
use Rattle.fields.specs.LongDivision.{Degree}
use Rattle.fields.specs.PolynomialRing.{product_step, one_product}

pub degree_ge : (f k : ℕ) → Degree f k → 2 ^ k ≤ f
degree_ge f k d =
    omega (arith, (le-div_iff_mul-le {x = 1} {y = f} (pow_pos k)).0 (omega arith), one-mul (2 ^ k))

pub degree_lt : (f k : ℕ) → Degree f k → f < 2 ^ suc k
degree_lt f k d =
    omega (arith, (div-lt_iff_lt-mul {x = f} {y = 2} (pow_pos k)).0 (omega arith), pow-succ' 2 k)

pub degree_from : (f k : ℕ) → 2 ^ k ≤ f → f < 2 ^ suc k → Degree f k
degree_from f k l h =
    div-eq_of_lt-le (2 ^ k) (omega (arith, one-mul (2 ^ k))) (omega (arith, pow-succ' 2 k))

pub degree_below : (f k n : ℕ) → Degree f k → f < 2 ^ n → k < n
degree_below f k n d h =
    ⊎_elim (λ l. l) (λ (l : n ≤ k). absurd (let m = pow_mono l in omega (arith, degree_ge f k d)))
    (cases_lt k n)

pub degree_above : (f k n : ℕ) → Degree f k → 2 ^ n ≤ f → n ≤ k
degree_above f k n d h =
    ⊎_elim (λ (l : n < suc k). omega arith)
    (λ (l : suc k ≤ n). absurd (let m = pow_mono l in omega (arith, degree_lt f k d)))
    (cases_lt n (suc k))

pub degree_unique : (f i j : ℕ) → Degree f i → Degree f j → i ≡ j
degree_unique f i j p q =
    le_antisymm (degree_above f j i q (degree_ge f i p)) (degree_above f i j p (degree_ge f j q))

pub below_from : (a k : ℕ) → a / 2 ^ k ≡ 0 → a < 2 ^ k
below_from a k e =
    omega (arith, (div-lt_iff_lt-mul {x = a} {y = 1} (pow_pos k)).0 (omega arith), one-mul (2 ^ k))

pub above_from : (a k : ℕ) → (a / 2 ^ k ≢ 0) → 2 ^ k ≤ a
above_from a k h =
    ⊎_elim (λ (l : a < 2 ^ k). absurd (h (div-eq_of_lt l))) (λ l. l) (cases_lt a (2 ^ k))

-- without its lowest coefficient a polynomial has a degree lower by 1
half_is : (a k : ℕ) → a / 2 ^ suc k ≡ a / 2 / 2 ^ k
half_is a k = ap (λ (x : ℕ). a / x) (pow-succ' 2 k) ∙ sym (div-div-eq-div-mul a 2 (2 ^ k))

pub has_degree : (a : ℕ) → 1 ≤ a → (k : ℕ) × Degree a k
has_degree =
    bin_ind (λ a. 1 ≤ a → (k : ℕ) × Degree a k) (λ h. absurd (omega arith))
    (λ a ih h. ⊎_elim (λ e. (0, div-one a ∙ omega (arith, e)))
    (λ p. (suc (ih p).0, half_is a (ih p).0 ∙ (ih p).1)) (eq-zero-or-pos (a / 2)))

pub degree_product : (j k a b : ℕ) → Degree a j → Degree b k → Degree (a ⊗ b) (j + k)
degree_product zero k a b p q =
    ap₂ (λ (x y : ℕ). x / 2 ^ y) (ap (λ (x : ℕ). x ⊗ b) (sym (div-one a) ∙ p) ∙ one_product b)
    (zero-add k) ∙ q
degree_product (suc j) k a b p q =
    ap₂ (λ (x y : ℕ). x / 2 ^ y) (product_step a b) (suc-add j k)
    ∙ xor_shr (a % 2 * b) (a / 2 ⊗ b * 2) (suc (j + k))
    ∙ ap₂ bit_xor low
    (ap (λ (x : ℕ). a / 2 ⊗ b * 2 / x) (pow-suc 2 (j + k)) ∙ mul-div-mul_right (a / 2 ⊗ b)
    (2 ^ (j + k)) (omega arith)
    ∙ degree_product j k (a / 2) b (sym (half_is a j) ∙ p) q)
  where
    low : a % 2 * b / 2 ^ suc (j + k) ≡ 0
    low =
        let h : a % 2 * b ≤ 1 * b = mul-le-mul_right b (omega arith) in
        let m : 2 ^ suc k ≤ 2 ^ suc (j + k) = pow_mono (omega arith) in
        div-eq_of_lt (omega (arith, one-mul b, degree_lt b k q))
