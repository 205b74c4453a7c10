-- What a file's records tell, one after another.
use Rattle.std.specs.Prelude.{◌≡◌, ℕ, ◌+◌, Bool, true, false, List, Some, None, Ok, Err, Option, Result}
use Rattle.std.specs.Borrow.{Bor}
use Rattle.codes.specs.AnyCards.{any_arithmetic, any_code}
use Rattle.codes.specs.declared.any_card.AnyCard.{AnyCard}
use Rattle.codes.specs.declared.cell.Cell.{Cell}
use Rattle.tray_file.specs.reader.Readers.{Opened, Next}
use Rattle.tray_file.specs.reader.Turns.{last_card}
use Rattle.tray_file.specs.declared.fault.Fault.{Fault}
use Rattle.tray_file.specs.declared.reader.record.Record.{Record}
use Rattle.tray_file.specs.declared.reader.record.Record.TheVariants.{Card, Cells, Note}
use Rattle.tray_report.specs.WordReading.{WordFound}
use Rattle.tray_report.specs.declared.line.EndLine.{EndLine}
use Rattle.tray_report.specs.declared.file_lines.FileLines.{FileLines}
use Rattle.tray_report.specs.declared.file_lines.Step.{Step}
use Rattle.tray_report.specs.declared.file_lines.Step.TheVariants as step

-- at the file's start: nothing is counted
pub record Fresh (file : Bor (List ℕ)) (lines : FileLines) : Type 0 where
  pub reader : Opened file lines.reader
  pub counts : lines.end ≡ record { read = 0; lost = 0 }

-- the counts with this step among them: how many read, and how many do not
abbrev pub counts_with : EndLine → Step → EndLine
counts_with end step.Silent = end
counts_with end (step.Read place word_read) = record { read = end.read + 1; lost = end.lost }
counts_with end (step.Lost line) = record { read = end.read; lost = end.lost + 1 }
counts_with end (step.End line) = end
counts_with end (step.Fault line) = end

-- The word of the cells under the card, at the record's place, or why they do not read.
abbrev pub CellsTold : ℕ → AnyCard → List Cell → Step → Type 0
CellsTold place card cells (step.Read at word_read) =
    (at ≡ place) × WordFound (any_arithmetic card) (any_code card) cells (Ok word_read)
CellsTold place card cells (step.Lost line) =
    (line.place ≡ place) × WordFound (any_arithmetic card) (any_code card) cells (Err line.refusal)
CellsTold place card cells step.Silent = ⊥
CellsTold place card cells (step.End line) = ⊥
CellsTold place card cells (step.Fault line) = ⊥

-- the end and a fault are the last to be told
abbrev pub goes_on : Step → Bool
goes_on step.Silent = true
goes_on (step.Read place word_read) = true
goes_on (step.Lost line) = true
goes_on (step.End line) = false
goes_on (step.Fault line) = false

-- What is told of the reader's answer: the counts at the end, the fault, nothing of a card or a
-- note, the word of the cells under the last card. Cells that are told are counted.
abbrev pub Tells : FileLines → Option (Result Record Fault) → Step → FileLines → Type 0
Tells before None told after = (told ≡ step.End before.end) × (after.end ≡ before.end)
Tells before (Some (Err fault)) told after =
    (told ≡ step.Fault (record { fault = fault })) × (after.end ≡ before.end)
Tells before (Some (Ok (Card body))) told after =
    (told ≡ step.Silent) × (after.end ≡ before.end)
Tells before (Some (Ok (Note body))) told after =
    (told ≡ step.Silent) × (after.end ≡ before.end)
Tells before (Some (Ok (Cells body))) told after =
    (card : AnyCard) × (last_card after.reader.turn ≡ Some card)
    × CellsTold before.reader.place card after.reader.cells.items told
    × (after.end ≡ counts_with before.end told)

-- One step is one answer of the reader, and what is told of it.
abbrev pub Stepped : FileLines → Step → FileLines → Type 0
Stepped before told after =
    (answer : Option (Result Record Fault)) × Next before.reader answer after.reader
    × Tells before answer told after
