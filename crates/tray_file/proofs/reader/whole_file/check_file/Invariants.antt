use Rattle.std.proofs.Common.{◌≡◌, ℕ, List, length}
use Rattle.std.specs.Borrow.{Bor}
use Rattle.tray_file.specs.reader.Readers.{left_of, Opened, Answers}
use Rattle.tray_file.specs.declared.reader.TrayReader.{TrayReader}
use Rattle.tray_file.specs.declared.reader.record.Record.{Record}
use Rattle.tray_file.proofs.reader.whole_file.check_file.Given as goal

-- the records so far
abbrev pub invariant-loop-answer : goal.invariant-loop-answer
invariant-loop-answer l =
    (file : Bor (List ℕ)) × (first : TrayReader) × (rs : List Record) × (file.now ≡ l.fn.file) × Opened file first × Answers first rs l.reader
    × (length rs ≡ l.records)

-- the bytes that are left
abbrev pub decreases-loop-answer : goal.decreases-loop-answer
decreases-loop-answer l = length (left_of l.reader)
