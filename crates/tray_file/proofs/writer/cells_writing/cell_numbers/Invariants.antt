use Rattle.std.proofs.Common.{◌≡◌, map, take}
use Rattle.tray_file.specs.body.CellBodies.{cell_number}
use Rattle.tray_file.proofs.writer.cells_writing.cell_numbers.Given as goal

abbrev pub invariant-loop-cell : goal.invariant-loop-cell
invariant-loop-cell l = l.numbers.items ≡ map cell_number (take l.cell-index l.cells)
