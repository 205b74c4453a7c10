-- A record in its turn.
use Rattle.std.specs.Prelude.{◌≡◌, ℕ, ◌+◌, ◌≤◌, ◌⊎◌, List, ◌++◌, length, drop, Ok, Err, Result}
use Rattle.std.specs.List.{between}
use Rattle.codes.specs.declared.cell.Cell.{Cell}
use Rattle.tray_file.specs.number.Numbers.{largest_number}
use Rattle.tray_file.specs.body.CardBodies.{CardIn, CardRead}
use Rattle.tray_file.specs.body.CellBodies.{CellsUnder, CellsRefusedUnder}
use Rattle.tray_file.specs.body.Notes.{PlainNote}
use Rattle.codes.specs.declared.any_card.AnyCard.{AnyCard}
use Rattle.tray_file.specs.declared.fault.body_fault.BodyFault.{BodyFault}
use Rattle.tray_file.specs.declared.fault.body_fault.BodyFault.TheVariants.{BadNote}
use Rattle.tray_file.specs.fault.Layers.{body_fault_number}
use Rattle.tray_file.specs.fault.Faults.{body_fault, fault_number}
use Rattle.tray_file.specs.reader.Entries.{Entry, entry, entry_bytes, body_place}
use Rattle.tray_file.specs.reader.Headers.{HeaderRefused}
use Rattle.tray_file.specs.declared.fault.Fault.{Fault}
use Rattle.tray_file.specs.declared.reader.kind.Kind.{Kind}
use Rattle.tray_file.specs.declared.reader.kind.Kind.TheVariants.{Card, Cells, Note}
use Rattle.tray_file.specs.declared.reader.turn.Turn.{Turn}
use Rattle.tray_file.specs.declared.reader.turn.Turn.TheVariants.{Start, After}
use Rattle.tray_file.specs.declared.reader.turn.Allowed.TheVariants.{EveryKind, NoNote}
use Rattle.tray_file.specs.declared.reader.record_reading.Step.{Step}

-- A body in its turn, and what is in turn after it: a card, which replaces the last one, cells
-- under the last card, or a plain note. Out of turn there is none.
abbrev pub Done : Kind → Turn → List ℕ → Turn → Type 0
Done Card turn body next = (card : AnyCard) × CardIn body card × (next ≡ After card EveryKind)
Done Cells Start body next = ⊥
Done Cells (After card allowed) body next =
    ((cells : List Cell) × CellsUnder card body cells) × (next ≡ After card EveryKind)
Done Note Start body next = ⊥
Done Note (After card EveryKind) body next = PlainNote body × (next ≡ After card NoNote)
Done Note (After card NoNote) body next = ⊥

-- why a note is refused
abbrev pub NoteRefused : List ℕ → BodyFault → Type 0
NoteRefused body fault =
    (body_fault_number fault ≡ 36) × (PlainNote body → ⊥) × (fault ≡ BadNote)

-- A body in its turn that is refused.
abbrev pub BodyRefused : Kind → Turn → List ℕ → BodyFault → Type 0
BodyRefused Card turn body fault = CardRead body (Err fault)
BodyRefused Cells Start body fault = ⊥
BodyRefused Cells (After card allowed) body fault = CellsRefusedUnder card body fault
BodyRefused Note Start body fault = ⊥
BodyRefused Note (After card EveryKind) body fault = NoteRefused body fault
BodyRefused Note (After card NoNote) body fault = ⊥

-- an entry in its turn, and what is in turn after it
pub record Follows (turn : Turn) (e : Entry) (next : Turn) : Type 0 where
  pub small : length e.body ≤ largest_number
  pub done : Done e.kind turn e.body next

-- the bytes begin with the entry's
abbrev pub EntryFirst : Entry → List ℕ → Type 0
EntryFirst e bytes = bytes ≡ entry_bytes e ++ drop (length (entry_bytes e)) bytes

-- a record that is whole, in turn, and whose body is refused
pub record BodyWrong (turn : Turn) (place : ℕ) (bytes : List ℕ) (fault : Fault) : Type 0 where
  pub whole : Entry
  pub first : EntryFirst whole bytes
  pub small : length whole.body ≤ largest_number
  pub cause : BodyFault
  pub refused : BodyRefused whole.kind turn whole.body cause
  pub is : fault ≡ body_fault place (body_place place whole) cause
  pub number_is : fault_number fault ≡ body_fault_number cause

-- The fault of the bytes at a place where no record stands in its turn.
abbrev pub RecordRefused : Turn → ℕ → List ℕ → Fault → Type 0
RecordRefused turn place bytes fault =
    HeaderRefused turn place bytes fault ⊎ BodyWrong turn place bytes fault

-- the record stands first, in its turn
pub record RecordIn (turn : Turn) (place : ℕ) (bytes : List ℕ) (e : Entry) (end : ℕ)
    (next : Turn) : Type 0 where
  pub first : EntryFirst e bytes
  pub follows : Follows turn e next
  pub end_place : end ≡ place + length (entry_bytes e)

-- The cells that the reader keeps after a record: those of a cells record; any other leaves them.
abbrev pub KeptCells : Kind → Turn → List ℕ → List Cell → List Cell → Type 0
KeptCells Card next body before after = after ≡ before
KeptCells Note next body before after = after ≡ before
KeptCells Cells Start body before after = ⊥
KeptCells Cells (After card EveryKind) body before after = CellsUnder card body after
KeptCells Cells (After card NoNote) body before after = ⊥

-- the same, with the body as a part of the file
pub record StepIn (turn next : Turn) (place : ℕ) (file : List ℕ) (before after : List Cell)
    (step : Step) : Type 0 where
  pub order : step.body ≤ step.end
  pub within : step.end ≤ length file
  pub place_is : step.body
      ≡ body_place place (entry step.kind (between step.body step.end file))
  pub here : RecordIn turn place (drop place file)
      (entry step.kind (between step.body step.end file)) step.end next
  pub cells : KeptCells step.kind next (between step.body step.end file) before after

-- The record that begins at a place of the file, in its turn, and what is in turn after it, or the
-- fault of that place. A fault leaves the turn and the cells.
abbrev pub RecordRead : Turn → Turn → ℕ → List ℕ → List Cell → List Cell → Result Step Fault
    → Type 0
RecordRead turn next place file before after (Ok step) =
    StepIn turn next place file before after step
RecordRead turn next place file before after (Err fault) =
    RecordRefused turn place (drop place file) fault × (next ≡ turn) × (after ≡ before)
