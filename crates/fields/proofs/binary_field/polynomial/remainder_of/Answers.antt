use Rattle.std.proofs.Common.{◌≡◌, ℕ, ◌-◌, ◌*◌, ◌%◌, ◌^◌, sym, ap, ◌∙◌, arith}
use lib.Bits.{bit_xor}
use Rattle.fields.specs.LongDivision.{remainder}
use Rattle.fields.specs.PolynomialDegrees.{degree_ge, degree_above, degree_unique, below_from, above_from}
use Rattle.fields.specs.PolynomialRemainders.{remainder_small}
use Rattle.fields.proofs.HighestTerm.{shift_whole, cancel_lower, cancel_remainder}
use Rattle.fields.proofs.binary_field.polynomial.remainder_of.Goals as goal

pub overflow_sub-rest : goal.overflow_sub-rest
overflow_sub-rest c = degree_above c.loop-rest.rest c.degree_of.result c.degree_of-degree.result c.degree_of.ensures.degree (above_from c.loop-rest.rest c.degree_of-degree.result c.loop-rest-test.true)

-- the shift loses no bit
whole : (c : goal.After-degree_of) → bit_xor c.loop-rest.rest (c.args.divisor * 2 ^ (c.degree_of.result - c.degree_of-degree.result) % 2 ^ 32) ≡ bit_xor c.loop-rest.rest (c.args.divisor * 2 ^ (c.degree_of.result - c.degree_of-degree.result))
whole c = ap (bit_xor c.loop-rest.rest) (shift_whole c.args.divisor c.degree_of.result c.degree_of-degree.result c.degree_of-degree.ensures.degree (overflow_sub-rest c) c.degree_of.ensures.below)

pub loop-rest-smaller : goal.loop-rest-smaller
loop-rest-smaller c =
    let (u, i, j) : ℕ × ℕ × ℕ = (c.loop-rest.rest, c.degree_of.result, c.degree_of-degree.result) in
    omega (arith, whole c, cancel_lower u c.args.divisor i j c.degree_of.ensures.degree c.degree_of-degree.ensures.degree (overflow_sub-rest c), degree_ge u i c.degree_of.ensures.degree)

pub loop-rest-preserved : goal.loop-rest-preserved
loop-rest-preserved c =
    ap (remainder c.args.divisor c.degree_of-degree.result) (whole c)
    ∙ cancel_remainder c.args.divisor c.degree_of-degree.result c.loop-rest.rest _ c.degree_of-degree.ensures.degree
    ∙ c.loop-rest.invariant

pub returns : goal.returns
returns c k d =
    let (f, j, u) : ℕ × ℕ × ℕ = (c.args.divisor, c.degree_of-degree.result, c.loop-rest.rest) in
    let e = c.degree_of-degree.ensures.degree in
    sym (remainder_small f j e u (below_from u j c.loop-rest-test.false)) ∙ c.loop-rest.invariant
    ∙ ap (λ (x : ℕ). remainder f x c.args.a) (degree_unique f j k e d)
