use Rattle.std.proofs.Common.{◌≡◌, ℕ, suc, ◌*◌, ◌/◌, ◌%◌, ◌^◌, ◌<◌, ◌≤◌, sym, refl, inr, ◌∙◌, mod-eq_of_lt, arith, pow_mono}
use native.Mathlib.Nat.{pow-succ'}
use Rattle.std.proofs.lemmas.Bool.{false≢true}
use Rattle.fields.specs.LongDivision.{remainder}
use Rattle.fields.specs.PolynomialDegrees.{has_degree}
use Rattle.fields.specs.PolynomialFactors.{trial_division, trial_factors}
use Rattle.fields.proofs.binary_field.irreducible.is_irreducible.Goals as goal

-- the limit is the first number of degree above half
limit : (m : ℕ) → m < 32 → 2 * 2 ^ (m / 2) % 2 ^ 32 ≡ 2 ^ suc (m / 2)
limit m h =
    let p : 2 ^ suc (m / 2) ≤ 2 ^ 31 = pow_mono {i = suc (m / 2)} {j = 31} (omega arith) in
    mod-eq_of_lt (omega (arith, pow-succ' 2 (m / 2))) ∙ sym (pow-succ' 2 (m / 2))

-- the divisor found is a factor
pub returns-then-remainder_of-eq0 : goal.returns-then-remainder_of-eq0
returns-then-remainder_of-eq0 c =
    let (k, d) = has_degree c.loop-divisor.divisor (omega arith) in
    let r = c.remainder_of.ensures k d in
    let z : remainder c.loop-divisor.divisor k c.args.f ≡ 0 = omega arith in
    let l = limit c.degree_of.result c.degree_of.ensures.below in
    let factors = trial_factors c.args.f c.degree_of.result c.loop-divisor.divisor k (omega arith) c.degree_of.ensures.degree (omega arith) (omega (arith, c.loop-divisor-test.true)) d z in
    record {
      decides = (λ e. absurd (false≢true e), λ i. absurd (i.no_product factors.0 factors.1 factors.2 factors.3 factors.4));
      factors = λ _. inr factors;
    }

pub returns : goal.returns
returns c =
    let l = limit c.degree_of.result c.degree_of.ensures.below in
    record {
      decides = (
        λ _. trial_division c.args.f c.degree_of.result (omega arith) c.degree_of.ensures.degree
            (λ d k two h. c.loop-divisor.invariant d k two (omega (arith, c.loop-divisor-test.false))),
        λ _. refl,
      );
      factors = λ e. absurd (false≢true (sym e));
    }
