-- Lemmas: proved, nothing here is to be believed.
-- Long division gives the remainder, and there is only one.
use Rattle.std.specs.Prelude.{◌≡◌, ℕ, zero, suc, ◌+◌, ◌*◌, ◌/◌, ◌%◌, ◌^◌, ◌<◌, ◌≤◌, bit_xor, nat_lt}
use Rattle.std.proofs.Common.{sym, ap, ap₂, subst, ◌∙◌, ⊎_elim, arith, le-add_left, eq-zero-or-pos, mod-lt, le_refl, pow_pos, pow_mono}
use Rattle.std.proofs.Math.Nat.{pow-succ'}
use Rattle.std.proofs.lemmas.Nat.{xor_shr, xor_lt}
use Rattle.std.specs.Int.Bits.{xor_shifted, xor_zero_r}
use Rattle.std.proofs.Math.Arith.{half_le, le-zero}
use Rattle.std.proofs.lemmas.Bool.{cond_both, ltb-true, ltb-false}
use Rattle.fields.specs.CarrylessProduct.{◌⊗◌}
use Rattle.fields.specs.LongDivision.{Degree, Remainder, bring_down, divide_bits, remainder}
use Rattle.fields.specs.PolynomialRing.{xor_laws, xor_cancel, xor_double, low_and_rest, zero_product, one_product, double_product, xor_product}
use Rattle.fields.specs.PolynomialDegrees.{has_degree, degree_ge, degree_from, degree_product, below_from}

-- a sum of two polynomials of degree k has a lower degree
pub xor_lower : (f y k : ℕ) → Degree f k → Degree y k → bit_xor y f < 2 ^ k
xor_lower f y k d e = below_from (bit_xor y f) k (xor_shr y f k ∙ ap₂ bit_xor e d)

rotate : (c p r : ℕ) → bit_xor c (bit_xor p r) ≡ bit_xor p (bit_xor r c)
rotate c p r = simp xor_laws

both_changed : (p y f : ℕ) → bit_xor p y ≡ bit_xor (bit_xor p f) (bit_xor y f)
both_changed p y f = simp xor_laws

-- one step of long division
bring_down_divides : (f k a r : ℕ) → Degree f k → Remainder f k (a / 2) r
    → Remainder f k a (bring_down f k r (a % 2))
bring_down_divides f k a r d h =
    cond_both (nat_lt y (2 ^ k)) y (bit_xor y f) (Remainder f k a)
    (λ t. record { quotient = q * 2; divides = with_y; small = ltb-true y (2 ^ k) t })
    (λ t.
    record {
      quotient = bit_xor (q * 2) 1;
      divides = with_y ∙ both_changed (q * 2 ⊗ f) y f ∙
          ap (λ (x : ℕ). bit_xor x (bit_xor y f))
          (sym (xor_product (q * 2) 1 f ∙ ap (bit_xor (q * 2 ⊗ f)) (one_product f)));
      small =
          xor_lower f y k d (degree_from y k (ltb-false y (2 ^ k) t)
          (omega (arith, h.small, pow-succ' 2 k)));
    })
  where
    y : ℕ
    y = r * 2 + a % 2

    q : ℕ
    q = h.quotient

    with_y : a ≡ bit_xor (q * 2 ⊗ f) y
    with_y =
        sym (low_and_rest a)
        ∙ ap (bit_xor (a % 2)) (ap (λ (x : ℕ). x * 2) h.divides ∙ sym (xor_double (q ⊗ f) r) ∙ ap
        (λ (x : ℕ). bit_xor x (r * 2)) (sym (double_product q f)))
        ∙ rotate (a % 2) (q * 2 ⊗ f) (r * 2)
        ∙ ap (bit_xor (q * 2 ⊗ f)) (xor_shifted r 1 (a % 2) (mod-lt a (omega arith)))

-- an equation with a term of each side moved over
across : (p q s r : ℕ) → bit_xor p s ≡ bit_xor q r → bit_xor p q ≡ bit_xor s r
across p q s r e = left p q s ∙ ap (λ (x : ℕ). bit_xor x (bit_xor s q)) e ∙ right q r s
  where
    left : (p q s : ℕ) → bit_xor p q ≡ bit_xor (bit_xor p s) (bit_xor s q)
    left p q s = simp xor_laws

    right : (q r s : ℕ) → bit_xor (bit_xor q r) (bit_xor s q) ≡ bit_xor s r
    right q r s = simp xor_laws

bits_divide : (n f k a : ℕ) → Degree f k → a ≤ n → Remainder f k a (divide_bits f k n a)
bits_divide zero f k a d h =
    record {
      quotient = 0;
      divides = le-zero h ∙ ap (λ (x : ℕ). bit_xor x 0) (sym (zero_product f));
      small = pow_pos k;
    }
bits_divide (suc n) f k a d h =
    bring_down_divides f k a (divide_bits f k n (a / 2)) d (bits_divide n f k (a / 2) d (half_le h))

pub remainder_divides : (f k a : ℕ) → Degree f k → Remainder f k a (remainder f k a)
unfolding remainder
remainder_divides f k a d = bits_divide a f k a d (le_refl a)

-- a multiple of f of degree below that of f is 0
pub small_multiple : (f k q : ℕ) → Degree f k → q ⊗ f < 2 ^ k → q ≡ 0
small_multiple f k q d h = ⊎_elim (λ e. e) larger (eq-zero-or-pos q)
  where
    larger : 0 < q → q ≡ 0
    larger p =
        let (j, e) = has_degree q p in
        let m : 2 ^ k ≤ 2 ^ (j + k) = pow_mono (le-add_left k j) in
        absurd (omega (arith, degree_ge (q ⊗ f) (j + k) (degree_product j k q f e d)))

pub xor_zero : (a b : ℕ) → bit_xor a b ≡ 0 → a ≡ b
xor_zero a b e = sym (xor_zero_r a) ∙ ap (bit_xor a) (sym e) ∙ xor_cancel a b

pub remainder_unique : (f k a r : ℕ) → Degree f k → Remainder f k a r → remainder f k a ≡ r
remainder_unique f k a r d h =
    xor_zero s r (sym difference ∙ ap (λ (x : ℕ). x ⊗ f) none ∙ zero_product f)
  where
    s : ℕ
    s = remainder f k a

    g : Remainder f k a s
    g = remainder_divides f k a d

    difference : bit_xor g.quotient h.quotient ⊗ f ≡ bit_xor s r
    difference =
        xor_product g.quotient h.quotient f ∙ across (g.quotient ⊗ f) (h.quotient ⊗ f) s r
        (sym g.divides ∙ h.divides)

    none : bit_xor g.quotient h.quotient ≡ 0
    none =
        small_multiple f k _ d (subst (λ (x : ℕ). x < 2 ^ k) (sym difference)
        (xor_lt k s r g.small h.small))
