use Rattle.std.proofs.Common.{◌≡◌, length, take}
use Rattle.tray_file.specs.body.CellBodies.{cells_of}
use Rattle.tray_file.proofs.body.cells_body.write_cells.Given as goal

-- the cells so far, and as many as before
abbrev pub invariant-loop-j : goal.invariant-loop-j
invariant-loop-j l = (take l.j l.cells ≡ cells_of (take l.j l.numbers)) × (length l.cells ≡ length l.numbers)
