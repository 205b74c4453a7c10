use Rattle.std.proofs.Common.{◌≡◌, get_or, drop, set, ap, ◌∙◌, add-zero, arith}
use Rattle.std.proofs.lemmas.List.{take_all, length-drop}
use Rattle.std.proofs.lemmas.List.Edits.{fill_by_more}
use Rattle.algebra.specs.Polynomial.{act}
use Rattle.decoding.specs.filling.Fillings.{number_at}
use Rattle.decoding.specs.filling.Polynomials.{coefficients_of}
use Rattle.decoding.proofs.reading_lemmas.Coefficients.{act_from}
use Rattle.decoding.proofs.reading.locator.modified_sums.Goals as goal

pub loop-k-preserved : goal.loop-k-preserved
loop-k-preserved g c k h =
    let A = (g.F.Field.meaning c.args.field.now).arithmetic in
    let P = coefficients_of c.args.product.now in
    let sums = c.args.sums.now in
    let i = c.loop-k.k in
    let applied : c.apply.result ≡ act A P (number_at sums) i =
    c.apply.ensures ∙ ap (λ l. act A P (number_at l) 0) (take_all _ (drop i sums) (omega (arith, length-drop i sums)))
    ∙ act_from A P sums i 0 ∙ ap (act A P (number_at sums)) (add-zero i) in
    ap (λ x. get_or (set c.loop-k.modified i x) k 0) applied
    ∙ fill_by_more (act A P (number_at sums)) c.loop-k.modified i 0 (omega arith) c.loop-k.invariant k h
