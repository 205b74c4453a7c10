use Rattle.std.proofs.Common.{take}
use Rattle.std.specs.Fmt.{IsPlainFormatter, HasWritten}
use Rattle.codes.specs.WordText.{cells_text}
use Rattle.codes.proofs.cell_row.CellRowDisplay.fmt.Given as goal

-- the cells so far are written
abbrev pub invariant-loop-cell : goal.invariant-loop-cell
invariant-loop-cell g l = IsPlainFormatter l.initial.f → HasWritten g.W.Write.write_str_gives l.initial.f (cells_text (take l.cell-index l.cell-items)) l.f
