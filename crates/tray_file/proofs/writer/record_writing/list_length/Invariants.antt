use Rattle.std.proofs.Common.{◌≡◌, ◌*◌, ◌≤◌, length, take}
use Rattle.tray_file.specs.body.NumberLists.{numbers}
use Rattle.tray_file.proofs.writer.record_writing.list_length.Given as goal

abbrev pub invariant-loop-value : goal.invariant-loop-value
invariant-loop-value l = (l.size ≡ length (numbers (take l.value-index l.list))) × (l.size ≤ 3 * l.value-index)
