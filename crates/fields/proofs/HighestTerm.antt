-- Taking a multiple of v by a power of X off u cancels the highest term of u.
use Rattle.std.proofs.Common.{◌≡◌, ℕ, zero, suc, ◌+◌, ◌-◌, ◌*◌, ◌/◌, ◌%◌, ◌^◌, ◌<◌, ◌≤◌, sym, ap, ◌∙◌, ⊎_elim, mod-eq_of_lt, mul_assoc, add-sub_of_le, eq-zero-or-pos, pow-suc, mul-one, arith, pow_pos, pow_mono, pow-add}
use native.Mathlib.Nat.{mul-div-mul_right}
use lib.Bits.{bit_xor, xor_comm}
use Rattle.fields.specs.CarrylessProduct.{◌⊗◌}
use Rattle.fields.specs.LongDivision.{Degree, remainder}
use Rattle.fields.specs.PolynomialRing.{zero_product, one_product, product_zero, double_product}
use Rattle.fields.specs.PolynomialDegrees.{has_degree, degree_lt, degree_below, degree_product}
use Rattle.fields.specs.PolynomialDivision.{xor_lower}
use Rattle.fields.specs.PolynomialRemainders.{remainder_same}

-- a shift is a product with a power of X
pub shift_product : (v s : ℕ) → v * 2 ^ s ≡ 2 ^ s ⊗ v
shift_product v zero = mul-one v ∙ sym (one_product v)
shift_product v (suc s) =
    ap (λ (x : ℕ). v * x) (pow-suc 2 s) ∙ sym (mul_assoc v (2 ^ s) 2) ∙ ap (λ (x : ℕ). x * 2) (shift_product v s)
    ∙ sym (ap (λ (x : ℕ). x ⊗ v) (pow-suc 2 s) ∙ double_product (2 ^ s) v)

pub shift_degree : (v i j : ℕ) → Degree v j → j ≤ i → Degree (v * 2 ^ (i - j)) i
shift_degree v i j d h =
    ap (λ (x : ℕ). v * 2 ^ (i - j) / x) (sym (ap (λ (x : ℕ). 2 ^ x) (add-sub_of_le h)) ∙ pow-add 2 j (i - j))
    ∙ mul-div-mul_right v (2 ^ j) (pow_pos (i - j)) ∙ d

-- 32 bits hold what is shifted to a degree below 32
pub shift_whole : (v i j : ℕ) → Degree v j → j ≤ i → i < 32 → v * 2 ^ (i - j) % 2 ^ 32 ≡ v * 2 ^ (i - j)
shift_whole v i j d h l =
    let m : 2 ^ suc i ≤ 2 ^ 32 = pow_mono l in
    mod-eq_of_lt (omega (arith, degree_lt (v * 2 ^ (i - j)) i (shift_degree v i j d h)))

pub cancel_lower : (u v i j : ℕ) → Degree u i → Degree v j → j ≤ i → bit_xor u (v * 2 ^ (i - j)) < 2 ^ i
cancel_lower u v i j du dv h = xor_lower (v * 2 ^ (i - j)) u i (shift_degree v i j dv h) du

pub cancel_remainder : (f k u s : ℕ) → Degree f k → remainder f k (bit_xor u (f * 2 ^ s)) ≡ remainder f k u
cancel_remainder f k u s d = remainder_same f k d (2 ^ s) _ u (xor_comm u (f * 2 ^ s) ∙ ap (λ (x : ℕ). bit_xor x u) (shift_product f s))

-- a factor of no higher degree makes no higher product
pub product_below : (h x y j n : ℕ) → Degree y j → x < 2 ^ suc j → h ⊗ y < 2 ^ n → h ⊗ x < 2 ^ n
product_below h x y j n dy lx below =
    ⊎_elim (λ e. none (ap (λ (z : ℕ). z ⊗ x) e ∙ zero_product x))
    (λ ph. ⊎_elim (λ e. none (ap (λ (z : ℕ). h ⊗ z) e ∙ product_zero h))
    (λ px. some (has_degree h ph) (has_degree x px)) (eq-zero-or-pos x))
    (eq-zero-or-pos h)
  where
    none : h ⊗ x ≡ 0 → h ⊗ x < 2 ^ n
    none e = omega (arith, pow_pos n)

    some : (i : ℕ) × Degree h i → (m : ℕ) × Degree x m → h ⊗ x < 2 ^ n
    some (i, dh) (m, dx) =
        let hi = degree_below (h ⊗ y) (i + j) n (degree_product i j h y dh dy) below in
        let lo = degree_below x m (suc j) dx lx in
        let p : 2 ^ suc (i + m) ≤ 2 ^ n = pow_mono (omega arith) in
        omega (arith, degree_lt (h ⊗ x) (i + m) (degree_product i m h x dh dx))
