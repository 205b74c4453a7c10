use Rattle.std.proofs.Common.{◌≡◌, ℕ, ◌<◌, length, get_or, Some}
use Rattle.std.specs.Str.{chars}
use Rattle.codes.specs.Cells.{blank_cell}
use Rattle.tags.specs.marks.Lines.{marked_cell}
use Rattle.tags.proofs.marks.line.write_marks.Given as goal

-- the marks so far stand in their cells
abbrev pub invariant-loop-place : goal.invariant-loop-place
invariant-loop-place l = record {
  long : length l.cells ≡ length l.initial.cells;
  each : (j : ℕ) → j < length l.yielded → marked_cell l.letters (get_or (chars l.line) j 0) ≡ Some (get_or l.cells j blank_cell);
}
