use Rattle.std.proofs.Common.{List, ℕ, ap, rules}
use Rattle.minimal_pairs.proofs.PolyFacts.{exchanged_front}
use Rattle.minimal_pairs.proofs.poly.Poly.exchange.Goals as goal

pub returns-clause-self_after : goal.returns-clause-self_after
returns-clause-self_after c =
    let p = c.args.self.now.coeffs in
    let q = c.args.other.now.coeffs in
    ap (λ (xs : List ℕ). record { coeffs = xs })
    (exchanged_front c.args.degree _ p q c.swap_with_slice.ensures.after (search rules) c.requires.up_to c.requires.other_up_to)

pub returns-clause-other_after : goal.returns-clause-other_after
returns-clause-other_after c =
    let p = c.args.self.now.coeffs in
    let q = c.args.other.now.coeffs in
    ap (λ (xs : List ℕ). record { coeffs = xs })
    (exchanged_front c.args.degree _ q p c.swap_with_slice.ensures.other_after (search rules) c.requires.other_up_to c.requires.up_to)
