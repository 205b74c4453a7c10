use Rattle.std.proofs.Common.{◌≡◌, ℕ, suc, ◌-◌, ◌*◌, ◌%◌, ◌^◌, ◌<◌, ◌≤◌, sym, ap, subst₂, mod-eq_of_lt, arith, pow_mono}
use lib.Bits.{bit_xor}
use Rattle.fields.specs.CarrylessProduct.{◌⊗◌}
use Rattle.fields.specs.LongDivision.{Degree, remainder}
use Rattle.fields.specs.PolynomialDegrees.{has_degree, degree_ge, degree_above, degree_below}
use Rattle.fields.proofs.HighestTerm.{shift_whole, cancel_lower}
use Rattle.fields.proofs.PolynomialEuclid.{Euclid, euclid_start, euclid_swap, euclid_cancel, euclid_end, cofactor_below}
use Rattle.fields.proofs.binary_field.euclid.inverse.Goals as goal

pub loop-v-init : goal.loop-v-init
loop-v-init c k d = euclid_start c.args.f k c.args.a d c.requires.irreducible c.requires.positive (c.requires.element k d)

pub loop-v-preserved-then-u-v : goal.loop-v-preserved-then-u-v
loop-v-preserved-then-u-v c k d =
    euclid_swap c.args.f k c.args.a d c.requires.irreducible c.requires.positive (c.requires.element k d) (c.loop-v.invariant k d) c.loop-v-test.true

pub degree_of-requires : goal.degree_of-requires
degree_of-requires c = let (k, d) = has_degree c.args.f (omega (arith, c.requires.irreducible.no_constant)) in (c.loop-v.invariant k d).u_positive

pub degree_of-requires-else-u-v : goal.degree_of-requires-else-u-v
degree_of-requires-else-u-v c = let (k, d) = has_degree c.args.f (omega (arith, c.requires.irreducible.no_constant)) in (c.loop-v.invariant k d).v_positive

pub overflow_sub-shift : goal.overflow_sub-shift
overflow_sub-shift c =
    let h = degree_ge c.loop-v.v c.degree_of-else-u-v.result c.degree_of-else-u-v.ensures.degree in
    degree_above c.loop-v.u c.degree_of.result c.degree_of-else-u-v.result c.degree_of.ensures.degree (omega arith)

-- the shift of v loses no bit
whole : (c : goal.After-degree_of-else-u-v) → c.loop-v.v * 2 ^ (c.degree_of.result - c.degree_of-else-u-v.result) % 2 ^ 32 ≡ c.loop-v.v * 2 ^ (c.degree_of.result - c.degree_of-else-u-v.result)
whole c = shift_whole c.loop-v.v c.degree_of.result c.degree_of-else-u-v.result c.degree_of-else-u-v.ensures.degree (overflow_sub-shift c) c.degree_of.ensures.below

pub loop-v-smaller : goal.loop-v-smaller
loop-v-smaller c =
    let (u, v, i, j) : ℕ × ℕ × ℕ × ℕ = (c.loop-v.u, c.loop-v.v, c.degree_of.result, c.degree_of-else-u-v.result) in
    let e = ap (bit_xor u) (whole c) in
    omega (arith, e, cancel_lower u v i j c.degree_of.ensures.degree c.degree_of-else-u-v.ensures.degree (overflow_sub-shift c), degree_ge u i c.degree_of.ensures.degree)

pub loop-v-preserved : goal.loop-v-preserved
loop-v-preserved c k d =
    let (f, a, u, v, g, h, i, j) : ℕ × ℕ × ℕ × ℕ × ℕ × ℕ × ℕ × ℕ = (c.args.f, c.args.a, c.loop-v.u, c.loop-v.v, c.loop-v.g, c.loop-v.h, c.degree_of.result, c.degree_of-else-u-v.result) in
    let E = c.loop-v.invariant k d in
    let (du, dv) : Degree u i × Degree v j = (c.degree_of.ensures.degree, c.degree_of-else-u-v.ensures.degree) in
    let fits : 2 ^ suc k ≤ 2 ^ 32 = pow_mono (degree_below f k 32 d c.ranges.f.fits) in
    let below = cofactor_below f k a d c.requires.irreducible c.requires.positive (c.requires.element k d) E i j du dv (overflow_sub-shift c) in
    let cofactor : h * 2 ^ (i - j) % 2 ^ 32 ≡ h * 2 ^ (i - j) = mod-eq_of_lt (omega arith) in
    subst₂ (λ (x y : ℕ). Euclid f k a (bit_xor u x) v (bit_xor g y) h) (sym (whole c)) (sym cofactor)
    (euclid_cancel f k a d c.requires.irreducible c.requires.positive (c.requires.element k d) E i j du dv (overflow_sub-shift c) c.loop-v-test.true)

pub returns : goal.returns
returns c = record { below = λ k d. (end k d).0; inverts = λ k d. (end k d).1 }
  where
    end : (k : ℕ) → Degree c.args.f k → (c.loop-v.h < 2 ^ k) × (remainder c.args.f k (c.args.a ⊗ c.loop-v.h) ≡ 1)
    end k d = euclid_end c.args.f k c.args.a d c.requires.irreducible c.requires.positive (c.requires.element k d) (c.loop-v.invariant k d) c.loop-v-test.false
