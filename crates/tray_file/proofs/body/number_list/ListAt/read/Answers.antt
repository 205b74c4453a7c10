use Rattle.std.proofs.Common.{ℕ, ◌+◌, List, length, take, drop, sym, ap, ◌∙◌, subst, arith}
use Rattle.std.proofs.lemmas.Result.{err_from_is_err_and}
use Rattle.std.proofs.lemmas.List.{take_all, take_more_set, length-take-le, length-set}
use Rattle.tray_file.specs.body.NumberLists.{numbers, Begins}
use Rattle.tray_file.proofs.body_lemmas.NumberLists.{list_more, list_stops}
use Rattle.tray_file.proofs.body.number_list.ListAt.read.Goals as goal

pub returns : goal.returns
returns c =
    let inv = c.loop-j.invariant in
    let list = c.args.self in
    let whole = take_all c.loop-j.j c.loop-j.values (omega (arith, inv.2, c.loop-j-test.false)) in (
      subst (λ (l : List ℕ). Begins l (drop list.start list.body.now)) whole inv.0,
      inv.1 ∙ ap (λ (l : List ℕ). list.start + length (numbers l)) whole,
      inv.2,
    )

pub returns-in_err-read : goal.returns-in_err-read
returns-in_err-read c =
    let inv = c.loop-j.invariant in
    let list = c.args.self in
    let values = take c.loop-j.j c.loop-j.values in
    let fewer = length-take-le c.loop-j.j c.loop-j.values (omega (arith, inv.2)) in
    let stop = list_stops values list.body.now list.start c.loop-j.place list.count _ inv.0 inv.1 (omega (arith, fewer)) c.in_err-read.ensures in
    let p = err_from_is_err_and c.from_residual.result c.from_residual.ensures.1 in
    rw (p.1, p.2) stop

pub loop-j-preserved : goal.loop-j-preserved
loop-j-preserved c =
    let inv = c.loop-j.invariant in
    let list = c.args.self in
    let j = c.loop-j.j in
    let value = c.in_ok-read.read.value in
    let more = list_more (take j c.loop-j.values) list.body.now list.start c.loop-j.place c.in_ok-read.read inv.0 inv.1 c.in_ok-read.ensures in
    let next = sym (ap (take (j + 1)) c.set.ensures ∙ take_more_set c.loop-j.values j value (omega (arith, inv.2))) in (
      subst (λ (l : List ℕ). Begins l (drop list.start list.body.now)) next more.0,
      more.1 ∙ ap (λ (l : List ℕ). list.start + length (numbers l)) next,
      ap length c.set.ensures ∙ length-set c.loop-j.values j value ∙ inv.2,
    )
