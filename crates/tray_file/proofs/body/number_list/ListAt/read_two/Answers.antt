use Rattle.std.proofs.Common.{ℕ, List, drop, subst}
use Rattle.std.proofs.lemmas.Result.{err_from_is_err_and}
use Rattle.tray_file.specs.body.WholeLists.{Are}
use Rattle.tray_file.proofs.body_lemmas.NumberLists.{from_end}
use Rattle.tray_file.proofs.body_lemmas.NumberEnds.{missing_first, refused_after, are_both}
use Rattle.tray_file.proofs.body.number_list.ListAt.read_two.Goals as goal

pub returns-in_err-first : goal.returns-in_err-first
returns-in_err-first c =
    let list = c.args.self in
    let stop = missing_first list.start list.count (drop list.start list.body.now) _ c.in_err-first.ensures in
    let p = err_from_is_err_and c.from_residual.result c.from_residual.ensures.1 in
    rw (p.1, p.2) stop

pub returns-in_err-read_whole : goal.returns-in_err-read_whole
returns-in_err-read_whole c =
    let list = c.args.self in
    let read = c.in_ok-first.ensures in
    let first = c.in_ok-first.first in
    let stop = refused_after first.values list.body.now list.start first.end list.count _ read.0 read.2 read.1 c.in_err-read_whole.ensures in
    let p = err_from_is_err_and c.from_residual-in_err-read_whole.result c.from_residual-in_err-read_whole.ensures.1 in
    rw (p.1, p.2) stop

pub returns : goal.returns
returns c =
    let list = c.args.self in
    let read = c.in_ok-first.ensures in
    let first = c.in_ok-first.first in
    let rest = c.in_ok-read_whole.ensures in
    let second = c.in_ok-read_whole.field-0 in
    let here = subst (λ (l : List ℕ). Are second l) (from_end first.values list.body.now list.start first.end read.1) rest.0 in
    (are_both first.values (drop list.start list.body.now) list.count read.0 read.2 second here, read.2, rest.1)
