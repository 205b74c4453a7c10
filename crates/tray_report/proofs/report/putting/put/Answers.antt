use Rattle.std.proofs.Common.{◌++◌, take}
use Rattle.std.proofs.KnownBytes.{Appends-trans}
use Rattle.tray_report.proofs.Putting.{next_left}
use Rattle.tray_report.proofs.report.putting.put.Goals as goal

pub loop-preserved : goal.loop-preserved
loop-preserved g c =
    let inv = c.loop.invariant in
    let left = c.loop.left.now in
    let taken = c.in_ok-taken.taken in
    (inv.0 ++ take taken left, next_left c.args.bytes.now inv.0 left taken c.in_ok-taken.ensures.bound inv.1, Appends-trans _ _ _ inv.0 (take taken left) inv.2 c.in_ok-taken.ensures.bytes)
