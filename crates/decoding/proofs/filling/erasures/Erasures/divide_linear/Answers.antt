use Rattle.std.proofs.Common.{◌≡◌, ℕ, ◌+◌, ◌-◌, List, length, get_or, take, drop, sym, ap, ◌∙◌, subst, ap₂, arith}
use Rattle.std.proofs.lemmas.List.{length_push, length-take-le, length-drop, take_all, get_or-take, get_or-drop}
use Rattle.std.proofs.lemmas.Iterator.{YieldsList-from_zip}
use Rattle.std.proofs.lemmas.Iterator.Adapters.{YieldsList-from_rev_slice}
use Rattle.std.proofs.lemmas.Iterator.Consumers.{YieldsList-turn, YieldsList-end}
use Rattle.decoding.specs.filling.Polynomials.{coefficients_of, degree_of}
use Rattle.decoding.specs.filling.Fillings.{number_at}
use Rattle.decoding.proofs.filling_lemmas.Polynomials.{Divided, divided_none, divided_more, divided_all, pair_from_end, pairs_in_all}
use Rattle.decoding.proofs.filling.erasures.Erasures.divide_linear.Goals as goal

pub loop-coefficient-init : goal.loop-coefficient-init
loop-coefficient-init g c =
    let p = c.args.self.now.annihilator.now in
    divided_none _ c.args.point (coefficients_of p) (number_at c.args.self.now.sums.now) (degree_of p - 0) (omega (arith, p.constant))

pub loop-coefficient-preserved : goal.loop-coefficient-preserved
loop-coefficient-preserved g c =
    let p = c.args.self.now.annihilator.now in
    let P = coefficients_of p in
    let A = (g.F.Field.meaning c.args.self.now.field.now).arithmetic in
    let sums = c.args.self.now.sums.now in
    let S = number_at sums in
    let xs = c.iter.result.rest.now in
    let ys = c.iter-2.result.rest.now in
    let i = length c.loop-coefficient.yielded in
    let read : ℕ × ℕ = (c.in-Some.coefficient.now, c.in-Some.sum.now) in
    let (yielded, is) = YieldsList-turn (YieldsList-from_zip (YieldsList-from_rev_slice xs (cc)) (YieldsList-from_rev_slice ys (cc)))
    c.loop-coefficient.yielded c.loop-coefficient.coefficient-iterator c.loop-coefficient.yielded_by c.next.result c.next.new.self _ c.in-Some.is c.next.ensures.steps in
    let more = c.coefficients.ensures.one_more in
    let d = degree_of p in
    let xs-long : length xs ≡ d = omega (arith, ap length c.iter.ensures.rest) in
    let enough = c.args.self.now.enough in
    let ys-long : length ys ≡ d = ap length c.iter-2.ensures.rest ∙ ap (λ n. length (take n sums)) c.degree.ensures.value ∙ length-take-le d sums enough in
    let (below, own, sum) = pair_from_end xs ys i read (omega arith) yielded is in
    let k = d - (i + 1) in
    let j = d - i in
    let place : length xs - 1 - i ≡ k = omega arith in
    let next : 1 + k ≡ j = omega arith in
    let own-is : c.in-Some.coefficient.now ≡ get_or P j 0 = own
    ∙ ap₂ (λ (l : List ℕ) n. get_or l n 0) (c.iter.ensures.rest ∙ take_all _ (drop 1 c.coefficients.result.now) (omega (arith, length-drop 1 c.coefficients.result.now)) ∙ ap (drop 1) c.coefficients.ensures.value) place
    ∙ get_or-drop 1 P k 0 ∙ ap (λ n. get_or P n 0) next in
    let sum-is : c.in-Some.sum.now ≡ S k = sum
    ∙ ap₂ (λ (l : List ℕ) n. get_or l n 0) (c.iter-2.ensures.rest ∙ ap (λ n. take n sums) c.degree.ensures.value) place
    ∙ get_or-take d sums k 0 (omega arith) in
    subst (λ n. Divided A c.args.point P S (d - n) c.add-quotient.result c.add-action.result c.add-value.result) (sym (length_push c.loop-coefficient.yielded (c.in-Some.coefficient, c.in-Some.sum)))
    (divided_more A c.args.point P S k j _ _ _ _ _ _ (omega arith) (omega arith) c.loop-coefficient.invariant
    (c.add-quotient.ensures ∙ ap₂ A.plus own-is c.mul.ensures)
    (c.add-action.ensures ∙ ap (λ x. A.plus x c.loop-coefficient.action) (c.mul-in-loop-coefficient.ensures ∙ ap (A.times c.add-quotient.result) sum-is))
    (c.add-value.ensures ∙ ap (A.plus c.add-quotient.result) c.mul-in-loop-coefficient-2.ensures))

pub returns : goal.returns
returns g c =
    let p = c.args.self.now.annihilator.now in
    let sums = c.args.self.now.sums.now in
    let xs = c.iter.result.rest.now in
    let ys = c.iter-2.result.rest.now in
    let (all, long) = YieldsList-end (YieldsList-from_zip (YieldsList-from_rev_slice xs (cc)) (YieldsList-from_rev_slice ys (cc)))
    c.loop-coefficient.yielded c.loop-coefficient.coefficient-iterator c.loop-coefficient.yielded_by c.next.result c.next.new.self c.in-None.is c.next.ensures.steps in
    let more = c.coefficients.ensures.one_more in
    let d = degree_of p in
    let enough = c.args.self.now.enough in
    let xs-long : length xs ≡ d = omega (arith, ap length c.iter.ensures.rest) in
    let ys-long : length ys ≡ d = ap length c.iter-2.ensures.rest ∙ ap (λ n. length (take n sums)) c.degree.ensures.value ∙ length-take-le d sums enough in
    let whole = long ∙ pairs_in_all xs ys (omega arith) in
    let divided = divided_all _ c.args.point (coefficients_of p) (number_at sums) (d - length c.loop-coefficient.yielded) _ _ _ (omega arith) c.loop-coefficient.invariant in
    record { action = divided.action_is; value = divided.value_is }
