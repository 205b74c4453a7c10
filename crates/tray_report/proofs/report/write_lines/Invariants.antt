use Rattle.std.proofs.Common.{◌≡◌, ℕ, List, length}
use Rattle.std.specs.Borrow.{Bor}
use Rattle.std.specs.Io.KnownBytes.{Appends}
use Rattle.tray_file.specs.reader.Readers.{left_of}
use Rattle.tray_report.specs.FileLines.{Fresh}
use Rattle.tray_report.specs.FileText.{Telling, steps_text}
use Rattle.tray_report.specs.declared.file_lines.FileLines.{FileLines}
use Rattle.tray_report.specs.declared.file_lines.Step.{Step}
use Rattle.tray_report.proofs.report.write_lines.Given as goal

-- the lines of what was told so far are written
abbrev pub invariant-loop-step : goal.invariant-loop-step
invariant-loop-step g l =
    (file : Bor (List ℕ)) × (first : FileLines) × (steps : List Step) × (file.now ≡ l.fn.file) × Fresh file first × Telling first steps l.lines
    × Appends (g.W.Write.contents l.fn.out) (g.W.Write.contents l.out) (steps_text steps)

-- the bytes that are left
abbrev pub decreases-loop-step : goal.decreases-loop-step
decreases-loop-step g l = length (left_of l.lines.reader)
