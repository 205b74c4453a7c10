use Rattle.std.proofs.Common.{◌≡◌, map, take}
use Rattle.tray_file.specs.body.CellBodies.{cell_of_number}
use Rattle.tray_file.proofs.body.cells_body.set_cells.Given as goal

-- the cells so far
abbrev pub invariant-loop-number : goal.invariant-loop-number
invariant-loop-number l = l.cells.items ≡ map cell_of_number (take l.number-index l.fn.numbers)
