use Rattle.std.proofs.Common.{◌<◌, ◌≤◌, sym, ◌∙◌, ⊎_elim, arith}
use Rattle.std.proofs.lemmas.Bool.{le-leb, lt-leb, cases_lt, cond-true, cond-false}
use Rattle.minimal_pairs.specs.Poly.{coefficient}
use Rattle.minimal_pairs.proofs.PolyFacts.{up_to_is}
use Rattle.minimal_pairs.proofs.poly.Combination.combine.Goals as goal

pub returns : goal.returns
returns g c =
    let inv = c.loop-j.invariant in
    let degree = c.args.self.now.degree in
    up_to_is degree (coefficient (g.F.Field.meaning c.args.field.now).arithmetic c.args.self.now.a c.args.p.now c.args.self.now.b c.args.self.now.d c.args.q.now) c.loop-j.p.coeffs inv.0
    (λ k h. ⊎_elim
    (λ (above : degree < k). inv.2 k (omega (arith, above, c.loop-j-test.false)) ∙ c.requires k above ∙ sym (cond-false _ _ _ (lt-leb k degree above)))
    (λ (below : k ≤ degree). inv.1 k (omega (arith, below, c.loop-j-test.false)) ∙ sym (cond-true _ _ _ (le-leb k degree below))) (cases_lt degree k))
