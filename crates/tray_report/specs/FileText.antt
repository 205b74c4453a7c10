-- The lines of a whole file.
use Rattle.std.specs.Prelude.{◌≡◌, ℕ, ◌+◌, ◌*◌, ◌≤◌, true, false, List, [], ◌∷◌, ◌++◌, length, Some, None, Option, codes}
use Rattle.std.specs.Borrow.{Bor}
use Rattle.codes.specs.declared.any_card.AnyCard.{AnyCard}
use Rattle.codes.specs.declared.cell.Cell.{Cell}
use Rattle.tray_file.specs.body.CardBodies.{CardIn}
use Rattle.tray_file.specs.body.CellBodies.{CellsUnder}
use Rattle.tray_file.specs.reader.Entries.{Entry, entry_bytes}
use Rattle.tray_file.specs.reader.Files.{File}
use Rattle.tray_file.specs.reader.Readers.{left_of}
use Rattle.tray_file.specs.declared.fault.Fault.{Fault}
use Rattle.tray_file.specs.declared.reader.kind.Kind.{Kind}
use Rattle.tray_file.specs.declared.reader.kind.Kind.TheVariants.{Card, Cells, Note}
use Rattle.tray_report.specs.ReportLines.{read_bytes, lost_text, end_text, fault_text}
use Rattle.tray_report.specs.FileLines.{CellsTold, Fresh, Stepped, counts_with, goes_on}
use Rattle.tray_report.specs.declared.line.EndLine.{EndLine}
use Rattle.tray_report.specs.declared.file_lines.FileLines.{FileLines}
use Rattle.tray_report.specs.declared.file_lines.Step.{Step}
use Rattle.tray_report.specs.declared.file_lines.Step.TheVariants as step

-- the line of what is told, and its end; a card or a note has none
abbrev pub step_text : Step → List ℕ
step_text step.Silent = []
step_text (step.Read place word) =
    read_bytes place word.counts.wrong word.counts.blank word.letters ++ codes "\n"
step_text (step.Lost line) = lost_text line ++ codes "\n"
step_text (step.End line) = end_text line ++ codes "\n"
step_text (step.Fault line) = fault_text line ++ codes "\n"

-- The text of a record at a place and of all that comes after it. A card is the last one for what
-- comes after it, a note tells nothing, and cells tell their line, under the last card, and are
-- counted.
abbrev pub RecordText : Kind → ℕ → List ℕ → Option AnyCard → EndLine
    → (Option AnyCard → EndLine → List ℕ → Type 0) → List ℕ → Type 0
RecordText Card place body last counts Later text =
    (card : AnyCard) × CardIn body card × Later (Some card) counts text
RecordText Note place body last counts Later text = Later last counts text
RecordText Cells place body last counts Later text =
    (card : AnyCard) × (last ≡ Some card) × (cells : List Cell) × CellsUnder card body cells
    × (told : Step) × (later : List ℕ) × CellsTold place card cells told
    × (text ≡ step_text told ++ later) × Later last (counts_with counts told) later

-- The text of these records, the first of which stands at the place, and of the end or the fault
-- after them; the last card before them, and the counts so far, come first.
abbrev pub RecordsText : Option AnyCard → EndLine → ℕ → List Entry → Option Fault → List ℕ
    → Type 0
RecordsText last counts place [] None text = text ≡ step_text (step.End counts)
RecordsText last counts place [] (Some fault) text =
    text ≡ step_text (step.Fault (record { fault = fault }))
RecordsText last counts place (e ∷ es) ending text =
    RecordText e.kind place e.body last counts
    (λ card so_far later.
    RecordsText card so_far (place + length (entry_bytes e)) es ending later) text

-- The text of a file: the lines of the records that it has, up to its end or the fault that ends
-- it.
pub record FileText (file text : List ℕ) : Type 0 where
  pub records : List Entry
  pub ending : Option Fault
  pub has : File file records ending
  pub lines : RecordsText None (record { read = 0; lost = 0 }) 0 records ending text

-- a file has one text
abbrev pub OneText : Type 0
OneText = (file a b : List ℕ) → FileText file a → FileText file b → a ≡ b

-- Whatever records and end a file has, it has a text.
abbrev pub FilesHaveText : Type 0
FilesHaveText =
    (file : List ℕ) (es : List Entry) (ending : Option Fault) → File file es ending
    → (text : List ℕ) × FileText file text

-- the lines of all that is told, one after another
abbrev pub steps_text : List Step → List ℕ
steps_text [] = []
steps_text (told ∷ later) = step_text told ++ steps_text later

-- these steps are told one after another, and after each the file has more to tell
abbrev pub Telling : FileLines → List Step → FileLines → Type 0
Telling before [] after = before ≡ after
Telling before (told ∷ later) after =
    (next : FileLines) × Stepped before told next × (goes_on told ≡ true) × Telling next later after

-- What the steps tell from the file's first byte on, up to the last, is the file's text.
abbrev pub EveryTelling : Type 0
EveryTelling =
    (file : Bor (List ℕ)) (first before after : FileLines) (steps : List Step) (told : Step)
    → Fresh file first → Telling first steps before → Stepped before told after
    → goes_on told ≡ false → FileText file.now (steps_text steps ++ step_text told)

-- No more steps go on than half of the bytes that are left, so after as many steps and one more the
-- last is told.
abbrev pub TellingEnds : Type 0
TellingEnds =
    (first after : FileLines) (steps : List Step) → Telling first steps after
    → 2 * length steps ≤ length (left_of first.reader)

-- what is known of all that steps tell
pub record TellingLaws : Type 0 where
  pub text : EveryTelling
  pub ends : TellingEnds
  pub exists : FilesHaveText
  pub one : OneText
