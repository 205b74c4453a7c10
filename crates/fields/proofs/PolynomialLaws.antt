-- The definitions on polynomials keep their laws.
use Rattle.std.proofs.Common.{◌≡◌, ℕ, zero, suc, ◌+◌, ◌*◌, ◌^◌, sym, refl, ap, ◌∙◌, add-zero, add-suc, pow-suc}
use lib.Bits.{xor_assoc, xor_comm, xor_zero_r, xor_self}
use Rattle.fields.specs.CarrylessProduct.{◌⊗◌}
use Rattle.fields.specs.LongDivision.{remainder}
use Rattle.fields.specs.PolynomialLaws.{CarrylessRing, DivisionLaw, PolynomialExamples}
use Rattle.fields.specs.PolynomialRing.{product_assoc, product_comm, product_one, product_xor, product_double}
use Rattle.fields.specs.PolynomialDegrees.{degree_product}
use Rattle.fields.specs.PolynomialDivision.{remainder_divides, remainder_unique}

product_powers : (i j : ℕ) → 2 ^ i ⊗ 2 ^ j ≡ 2 ^ (i + j)
product_powers i zero = product_one (2 ^ i) ∙ ap (λ (n : ℕ). 2 ^ n) (sym (add-zero i))
product_powers i (suc j) =
    ap (λ (x : ℕ). 2 ^ i ⊗ x) (pow-suc 2 j) ∙ product_double (2 ^ i) (2 ^ j)
    ∙ ap (λ (x : ℕ). x * 2) (product_powers i j) ∙ sym (pow-suc 2 (i + j))
    ∙ ap (λ (n : ℕ). 2 ^ n) (sym (add-suc i j))

pub carryless_ring : CarrylessRing
carryless_ring = record {
  sum_assoc = xor_assoc;
  sum_comm = xor_comm;
  sum_zero = xor_zero_r;
  sum_self = xor_self;
  product_assoc = product_assoc;
  product_comm = product_comm;
  product_one = product_one;
  product_degree = λ a b j k. degree_product j k a b;
  product_sum = product_xor;
  product_powers = product_powers;
}

pub division_law : DivisionLaw
division_law = record { divides = remainder_divides; only = λ f k a r d h. sym (remainder_unique f k a r d h) }

pub polynomial_examples : PolynomialExamples
unfolding ◌⊗◌ remainder
polynomial_examples = (refl, refl, refl)
