use Rattle.std.proofs.Common.{get_or, arith}
use Rattle.tray_file.proofs.writer_lemmas.Puts.{three_at_most, length_more}
use Rattle.tray_file.proofs.writer.record_writing.list_length.Goals as goal

pub overflow_add-size : goal.overflow_add-size
overflow_add-size c =
    let list = c.args.list.now in
    let j = c.loop-value.value-index in
    omega (arith, c.loop-value.invariant.1, c.number_length-size.ensures, three_at_most (get_or list j 0), c.requires)

pub loop-value-preserved : goal.loop-value-preserved
loop-value-preserved c =
    let list = c.args.list.now in
    let j = c.loop-value.value-index in
    let inv = c.loop-value.invariant in
    let one = c.number_length-size.ensures in
    let more = length_more list j (omega arith) in
    (omega (arith, inv.0), omega (arith, inv.1, three_at_most (get_or list j 0)))
