-- Euclid's algorithm on f and a finds the inverse of a modulo an irreducible f.
use Rattle.std.proofs.Common.{◌≡◌, ℕ, suc, ◌+◌, ◌-◌, ◌*◌, ◌^◌, ◌<◌, ◌≤◌, sym, ap, ◌∙◌, subst, ap₂, ⊎_elim, eq-zero-or-pos, pow-suc, arith, pow_pos, pow_mono}
use lib.Bits.{bit_xor, xor_lt}
use lib.Pow.{pow-lt}
use Rattle.std.proofs.lemmas.Bool.{cases_lt}
use Rattle.fields.specs.CarrylessProduct.{◌⊗◌}
use Rattle.fields.specs.LongDivision.{Degree, remainder}
use Rattle.fields.specs.Irreducible.{Irreducible}
use Rattle.fields.specs.PolynomialRing.{xor_laws, zero_product, one_product, product_zero, product_x, product_comm, product_assoc, xor_product}
use Rattle.fields.specs.PolynomialDegrees.{has_degree, degree_ge, degree_lt, degree_below, degree_product}
use Rattle.fields.specs.PolynomialDivision.{xor_zero}
use Rattle.fields.specs.PolynomialRemainders.{remainder_small, remainder_modulus, remainder_xor, remainder_product}
use Rattle.fields.specs.PolynomialFactors.{no_factor}
use Rattle.fields.proofs.HighestTerm.{shift_product, shift_degree, cancel_lower, product_below}

abbrev pub Divides : ℕ → ℕ → Type 0
Divides d a = (q : ℕ) × (a ≡ q ⊗ d)

-- What the loop keeps: modulo f, u is g × a and v is h × a; what divides u and v divides f and a; and the degrees of
-- g and v, and of h and u, add up to at most that of f, so no cofactor outgrows f. Where v is 1, u is not, so the degree
-- of h is then below that of f.
pub record Euclid (f k a u v g h : ℕ) : Type 0 where
  pub u_positive : 0 < u
  pub v_positive : 0 < v
  pub u_is : remainder f k (g ⊗ a) ≡ remainder f k u
  pub v_is : remainder f k (h ⊗ a) ≡ remainder f k v
  pub g_small : g ⊗ v < 2 ^ suc k
  pub h_small : h ⊗ u < 2 ^ suc k
  pub last : v ≡ 1 → 2 ≤ u
  pub common : (d : ℕ) → Divides d u → Divides d v → Divides d f × Divides d a

divisor_below : (d a n : ℕ) → 0 < a → a < 2 ^ n → Divides d a → (0 < d) × (d < 2 ^ n)
divisor_below d a n p l (q, e) =
    ⊎_elim (λ z. absurd (no_zero (ap (λ (x : ℕ). x ⊗ d) z ∙ zero_product d)))
    (λ pq. ⊎_elim (λ z. absurd (no_zero (ap (λ (x : ℕ). q ⊗ x) z ∙ product_zero q)))
    (λ pd. (pd, some (has_degree q pq) (has_degree d pd))) (eq-zero-or-pos d))
    (eq-zero-or-pos q)
  where
    no_zero : q ⊗ d ≡ 0 → ⊥
    no_zero z = omega arith

    some : (i : ℕ) × Degree q i → (j : ℕ) × Degree d j → d < 2 ^ n
    some (i, dq) (j, dd) =
        let h = degree_below (q ⊗ d) (i + j) n (degree_product i j q d dq dd) (omega arith) in
        let m : 2 ^ suc j ≤ 2 ^ n = pow_mono (omega arith) in
        omega (arith, degree_lt d j dd)

module _ (f k a : ℕ) (deg : Degree f k) (irr : Irreducible f) (positive : 0 < a) (element : a < 2 ^ k) where
  -- only 1 divides both f and a
  only_one : (d : ℕ) → Divides d f → Divides d a → d ≡ 1
  only_one d (q, e) h =
      let (pd, ld) = divisor_below d a k positive element h in
      ⊎_elim (λ (l : d < 2). omega arith) (λ (l : 2 ≤ d). absurd (no_factor f q d irr l (omega (arith, degree_ge f k deg)) e)) (cases_lt d 2)

  pub euclid_start : Euclid f k a f a 0 1
  euclid_start = record {
    u_positive = omega (arith, irr.no_constant);
    v_positive = positive;
    u_is = ap (remainder f k) (zero_product a) ∙ remainder_small f k deg 0 (pow_pos k) ∙ sym (remainder_modulus f k deg);
    v_is = ap (remainder f k) (one_product a);
    g_small = simp zero_product (pow_pos (suc k));
    h_small = simp one_product (degree_lt f k deg);
    last = λ _. irr.no_constant;
    common = λ d x y. (x, y);
  }

  module _ {u v g h : ℕ} (E : Euclid f k a u v g h) where
    pub euclid_swap : (v ≡ 1 → ⊥) → Euclid f k a v u h g
    euclid_swap no_one = record {
      u_positive = E.v_positive;
      v_positive = E.u_positive;
      u_is = E.v_is;
      v_is = E.u_is;
      g_small = E.h_small;
      h_small = E.g_small;
      last = λ _. omega (arith, E.v_positive);
      common = λ d x y. E.common d y x;
    }

    pub euclid_end : v ≡ 1 → (h < 2 ^ k) × (remainder f k (a ⊗ h) ≡ 1)
    euclid_end one =
        let (i, du) = has_degree u E.u_positive in
        let b = product_below h 2 u i (suc k) du (omega (arith, E.last one, degree_lt u i du)) E.h_small in (
          omega (arith, b, product_x h, pow-suc 2 k),
          ap (remainder f k) (product_comm a h) ∙ E.v_is ∙ ap (remainder f k) one ∙ remainder_small f k deg 1 (omega arith),
        )

    -- the highest term of u is cancelled by v times X^s
    module _ (i j : ℕ) (du : Degree u i) (dv : Degree v j) (le : j ≤ i) where
      abbrev s : ℕ
      s = i - j

      abbrev w : ℕ
      w = v * 2 ^ s

      abbrev c : ℕ
      c = h * 2 ^ s

      -- no shifted cofactor has a degree above that of f
      pub cofactor_below : h * 2 ^ (i - j) < 2 ^ suc k
      cofactor_below =
          subst (λ (x : ℕ). x < 2 ^ suc k) (product_comm h (2 ^ s) ∙ sym (shift_product h s))
          (product_below h (2 ^ s) u i (suc k) du (pow-lt {i = s} {j = suc i} (omega arith)) E.h_small)

      cofactor_times : (x : ℕ) → c ⊗ x ≡ h ⊗ x ⊗ 2 ^ s
      cofactor_times x = ap (λ (y : ℕ). y ⊗ x) (shift_product h s) ∙ product_assoc (2 ^ s) h x ∙ product_comm (2 ^ s) (h ⊗ x)

      no_cancel_to_zero : (v ≡ 1 → ⊥) → bit_xor u w ≡ 0 → ⊥
      no_cancel_to_zero no_one z =
          let (x, y) = E.common v (2 ^ s, xor_zero u w z ∙ shift_product v s) (1, sym (one_product v)) in
          no_one (only_one v x y)

      cancelled_is : remainder f k (bit_xor g c ⊗ a) ≡ remainder f k (bit_xor u w)
      cancelled_is =
          ap (remainder f k) (xor_product g c a) ∙ remainder_xor f k deg (g ⊗ a) (c ⊗ a)
          ∙ ap₂ bit_xor E.u_is
          (ap (remainder f k) (cofactor_times a) ∙ sym (remainder_product f k deg (h ⊗ a) (2 ^ s))
          ∙ ap (λ (x : ℕ). remainder f k (x ⊗ 2 ^ s)) E.v_is ∙ remainder_product f k deg v (2 ^ s)
          ∙ ap (remainder f k) (product_comm v (2 ^ s) ∙ sym (shift_product v s)))
          ∙ sym (remainder_xor f k deg u w)

      cancelled_small : bit_xor g c ⊗ v < 2 ^ suc k
      cancelled_small =
          subst (λ (x : ℕ). x < 2 ^ suc k)
          (ap (bit_xor (g ⊗ v)) (sym (cofactor_times v ∙ product_assoc h v (2 ^ s) ∙ ap (λ (x : ℕ). h ⊗ x) (product_comm v (2 ^ s) ∙ sym (shift_product v s)))) ∙ sym (xor_product g c v))
          (xor_lt (suc k) (g ⊗ v) (h ⊗ w) E.g_small (product_below h w u i (suc k) du (degree_lt w i (shift_degree v i j dv le)) E.h_small))

      divides_before : (d : ℕ) → Divides d (bit_xor u w) → Divides d v → Divides d u
      divides_before d (q, e) (p, m) = (
        bit_xor q (2 ^ s ⊗ p),
        back u w ∙ ap₂ bit_xor e (shift_product v s ∙ ap (λ (x : ℕ). 2 ^ s ⊗ x) m ∙ sym (product_assoc (2 ^ s) p d)) ∙ sym (xor_product q (2 ^ s ⊗ p) d),
      )
        where
          back : (x y : ℕ) → x ≡ bit_xor (bit_xor x y) y
          back x y = simp xor_laws

      pub euclid_cancel : (v ≡ 1 → ⊥) → Euclid f k a (bit_xor u (v * 2 ^ (i - j))) v (bit_xor g (h * 2 ^ (i - j))) h
      euclid_cancel no_one = record {
        u_positive = ⊎_elim (λ z. absurd (no_cancel_to_zero no_one z)) (λ p. p) (eq-zero-or-pos (bit_xor u w));
        v_positive = E.v_positive;
        u_is = cancelled_is;
        v_is = E.v_is;
        g_small = cancelled_small;
        h_small = product_below h (bit_xor u w) u i (suc k) du (omega (arith, cancel_lower u v i j du dv le, pow-suc 2 i)) E.h_small;
        last = λ one. absurd (no_one one);
        common = λ d x y. E.common d (divides_before d x y) y;
      }
