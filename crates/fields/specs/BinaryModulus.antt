-- Lemmas: proved, nothing here is to be believed.
-- An irreducible polynomial is a modulus, so the polynomials below its degree make a field.
use Rattle.std.specs.Prelude.{◌≡◌, ℕ, zero, suc, ◌^◌, ◌<◌, ◌≤◌, Some, bit_xor, refl}
use Rattle.std.proofs.Common.{sym, ap, ◌∙◌, ⊎_elim, arith, eq-zero-or-pos, pow_mono}
use Rattle.std.specs.Int.Bits.{xor_assoc, xor_self, xor_zero_r}
use Rattle.std.proofs.lemmas.Nat.{xor_comm, xor_lt}
use Rattle.algebra.specs.Modulus.{Modulus}
use Rattle.algebra.proofs.Modulus.{modulus_total, modulus_ring, modulus_laws}
use Rattle.algebra.proofs.OnElements.{on_elements_inside}
use Rattle.algebra.proofs.Inverses.{inverse_found}
use Rattle.algebra.specs.Laws.{Laws}
use Rattle.algebra.specs.Meaning.{Arithmetic, inverse_in, with_inverses}
use Rattle.algebra.specs.Limits.{size_bits, largest_size}
use Rattle.fields.specs.CarrylessProduct.{◌⊗◌}
use Rattle.fields.specs.LongDivision.{Degree, remainder}
use Rattle.fields.specs.Irreducible.{Irreducible}
use Rattle.fields.specs.Binary.{BinaryModulus, NoModulus}
use Rattle.fields.specs.BinaryArithmetic.{modulo_polynomial, largest_modulus}
use Rattle.fields.specs.PolynomialRing.{product_assoc, product_comm, product_one, product_zero, product_xor}
use Rattle.fields.specs.PolynomialDegrees.{has_degree, degree_ge, degree_lt, degree_below}
use Rattle.fields.specs.PolynomialDivision.{remainder_divides}
use Rattle.fields.specs.PolynomialRemainders.{remainder_below, remainder_small, remainder_modulus, remainder_add, remainder_product}
use Rattle.fields.specs.PolynomialFactors.{no_factor}

-- what is no modulus is none of any degree
pub no_modulus : (f k : ℕ) → NoModulus f → BinaryModulus f k → ⊥
no_modulus f k none m =
    let below = m.bounded in
    let two = m.irreducible.no_constant in
    ⊎_elim (λ large. omega arith)
    (⊎_elim (λ small. omega arith) (λ (a, b, la, lb, e). m.irreducible.no_product a b la lb e))
    none

-- an irreducible polynomial has degree 1 or more
pub degree_positive : (f k : ℕ) → Degree f k → 2 ≤ f → 2 ≤ 2 ^ k
degree_positive f zero d h = absurd (omega (arith, degree_lt f 0 d))
degree_positive f (suc k) d h = pow_mono {i = 1} (omega arith)

module _ (f k : ℕ) (d : Degree f k) (i : Irreducible f) where
  -- f divided by a; nothing is said where a is 0
  divided_by : (a : ℕ) → (q : ℕ) × (r : ℕ) × (0 < a → (f ≡ bit_xor (q ⊗ a) r) × (r < a))
  divided_by a =
      ⊎_elim (λ e. (0, 0, λ h. absurd (omega arith)))
      (λ p.
      let (j, da) = has_degree a p in
      let r = remainder_divides a j f da in
      (r.quotient, remainder a j f, λ _. (r.divides, omega (arith, r.small, degree_ge a j da))))
      (eq-zero-or-pos a)

  pub binary_modulus : Modulus (2 ^ k) bit_xor bit_xor (λ a b. remainder f k (a ⊗ b))
  binary_modulus = record {
    add = bit_xor;
    mul = ◌⊗◌;
    reduce = remainder f k;
    modulus = f;
    add_assoc = xor_assoc;
    add_comm = xor_comm;
    add-zero = xor_zero_r;
    mul_assoc = product_assoc;
    mul_comm = product_comm;
    mul-one = product_one;
    mul-zero = product_zero;
    mul-add = product_xor;
    smallest = degree_positive f k d i.no_constant;
    reduce_below = remainder_below f k d;
    reduce_small = remainder_small f k d;
    reduce_add = remainder_add f k d;
    reduce_mul = remainder_product f k d;
    reduce_modulus = remainder_modulus f k d;
    plus_is = λ a b ha hb. sym (remainder_small f k d (bit_xor a b) (xor_lt k a b ha hb));
    times_is = λ a b ha hb. refl;
    minus_below = xor_lt k;
    minus_is = λ a b ha hb. xor_assoc a b b ∙ ap (bit_xor a) (xor_self b) ∙ xor_zero_r a;
    quotient = λ a. (divided_by a).0;
    rest = λ a. (divided_by a).1;
    division = λ a h. ((divided_by a).2 h).0;
    rest_smaller = λ a h. ((divided_by a).2 h).1;
    no_factor = λ a l h z.
        let e = ((divided_by a).2 (omega arith)).0 ∙ ap (bit_xor ((divided_by a).0 ⊗ a)) z ∙
        xor_zero_r ((divided_by a).0 ⊗ a) in
        no_factor f (divided_by a).0 a i l (omega (arith, degree_ge f k d)) e;
  }

  pub binary_laws : 2 ^ k ≤ largest_size → Laws (with_inverses (modulo_polynomial f k))
  binary_laws = modulus_laws binary_modulus

  abbrev A : Arithmetic
  A = modulo_polynomial f k

  -- an element that makes 1 with a is the inverse that the field answers
  pub binary_inverse : (a b : ℕ) → a < 2 ^ k → b < 2 ^ k → remainder f k (a ⊗ b) ≡ 1
      → inverse_in A a ≡ Some b
  binary_inverse a b ha hb e =
      (inverse_found A (modulus_total binary_modulus) (modulus_ring binary_modulus) a b ha hb
      (on_elements_inside (2 ^ k) (λ x y. remainder f k (x ⊗ y)) a b ha hb ∙ e)).0

-- a modulus up to the largest makes no field larger than the largest size
pub modulus_size : (f k : ℕ) → Degree f k → f ≤ largest_modulus → 2 ^ k ≤ largest_size
modulus_size f k d h =
    let l = degree_below f k (suc size_bits) d (omega arith) in pow_mono {i = k} {j = size_bits}
    (omega arith)
