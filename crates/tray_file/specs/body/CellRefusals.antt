-- The number of each refusal of cells.
use Rattle.std.specs.Prelude.{ℕ}
use Rattle.tray_file.specs.fault.Layers.{body_fault_number}
use Rattle.tray_file.specs.declared.body.cells_refusal.CellsRefusal.{CellsRefusal}
use Rattle.tray_file.specs.declared.body.cells_refusal.CellsRefusal.TheVariants.{WrongLength, Body}

abbrev pub cells_refusal_number : CellsRefusal → ℕ
cells_refusal_number WrongLength = 25
cells_refusal_number (Body fault) = body_fault_number fault
