use Rattle.std.proofs.Common.{◌≡◌, ℕ, suc, ◌-◌, ◌*◌, ◌/◌, ◌^◌, ◌<◌, sym, ap, ◌∙◌, subst, ap₂, arith, pow_pos}
use native.Mathlib.Nat.{div-eq_of_lt}
use lib.Bits.{bit_xor, and_mask}
use Rattle.fields.specs.CarrylessProduct.{◌⊗◌}
use Rattle.fields.specs.LongDivision.{remainder}
use Rattle.fields.specs.PolynomialRing.{zero_product}
use Rattle.fields.specs.PolynomialDegrees.{degree_below}
use Rattle.fields.specs.PolynomialRemainders.{remainder_below, remainder_small, remainder_horner}
use Rattle.fields.proofs.binary_field.polynomial.product.Goals as goal

pub loop-i-init : goal.loop-i-init
loop-i-init c =
    let (a, b, f, k) : ℕ × ℕ × ℕ × ℕ = (c.args.a, c.args.b, c.args.f, c.args.degree) in
    sym (ap (remainder f k) (ap (λ (x : ℕ). x ⊗ b) (div-eq_of_lt c.requires.first) ∙ zero_product b) ∙ remainder_small f k c.requires.modulus 0 (pow_pos k))

pub times_x-requires : goal.times_x-requires
times_x-requires c = record {
  modulus = c.requires.modulus;
  element = subst (λ (x : ℕ). x < 2 ^ c.args.degree) (sym c.loop-i.invariant) (remainder_below c.args.f c.args.degree c.requires.modulus _);
}

pub overflow_shr-x : goal.overflow_shr-x
overflow_shr-x c = omega (arith, degree_below c.args.f c.args.degree 32 c.requires.modulus c.ranges.f.fits)

pub loop-i-preserved : goal.loop-i-preserved
loop-i-preserved c =
    let (a, b, f, k, i) : ℕ × ℕ × ℕ × ℕ × ℕ = (c.args.a, c.args.b, c.args.f, c.args.degree, c.loop-i.i) in
    let e : i ≡ suc (i - 1) = omega arith in
    ap₂ bit_xor
    (c.times_x.ensures ∙ ap (λ (x : ℕ). remainder f k (x * 2)) (c.loop-i.invariant ∙ ap (λ (x : ℕ). remainder f k (a / 2 ^ x ⊗ b)) e))
    (ap (λ (x : ℕ). x * b) (and_mask (a / 2 ^ (i - 1)) 1))
    ∙ sym (remainder_horner f k c.requires.modulus a b (i - 1) c.requires.second)
