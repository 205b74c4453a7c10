-- The reader's answers.
use Rattle.std.specs.Prelude.{◌≡◌, ℕ, ◌+◌, ◌*◌, ◌<◌, ◌≤◌, cond, ◌⊎◌, List, [], ◌∷◌, map, length, drop, Some, None, Ok, Err, Option, Result, nat_lt}
use Rattle.std.specs.Borrow.{Bor}
use Rattle.tray_file.specs.declared.fault.file_cause.FileCause.TheVariants.{LongFile}
use Rattle.tray_file.specs.fault.Faults.{fault_at, fault_number}
use Rattle.tray_file.specs.reader.Entries.{Entry, entry_of, part_of, entry_bytes, body_place, VeryPart}
use Rattle.tray_file.specs.reader.Records.{EntryFirst, Follows, KeptCells, RecordIn, RecordRefused}
use Rattle.tray_file.specs.reader.Files.{File}
use Rattle.tray_file.specs.reader.FileLimits.{longest_file}
use Rattle.tray_file.specs.declared.fault.Fault.{Fault}
use Rattle.tray_file.specs.declared.reader.record.Record.{Record}
use Rattle.tray_file.specs.declared.reader.TrayReader.{TrayReader}
use Rattle.tray_file.specs.declared.reader.turn.Turn.{Turn}
use Rattle.tray_file.specs.declared.reader.turn.Turn.TheVariants.{Start}

-- the fault of a file that is too long
abbrev pub long_fault : ℕ → Option Fault
long_fault size = cond (nat_lt longest_file size) (Some (fault_at 0 LongFile)) None

-- a fresh reader of this very file, with no cells
pub record Opened (file : Bor (List ℕ)) (reader : TrayReader) : Type 0 where
  pub same_file : reader.file ≡ file
  pub at_start : reader.place ≡ 0
  pub first_turn : reader.turn ≡ Start
  pub no_cells : reader.cells.items ≡ []
  pub too_long : reader.fault ≡ long_fault (length file.now)
  pub number_is : fault_number (fault_at 0 LongFile) ≡ 37

-- the bytes that are left
abbrev pub left_of : TrayReader → List ℕ
left_of reader = drop reader.place reader.file.now

-- nothing at the end, and nothing changes
pub record AtEnd (before after : TrayReader) : Type 0 where
  pub no_fault : before.fault ≡ None
  pub none_left : left_of before ≡ []
  pub same : after ≡ before

-- a fault: the one that was answered before, or that of the place; it is kept, and nothing else
-- changes
pub record AtFault (before : TrayReader) (fault : Fault) (after : TrayReader) : Type 0 where
  pub cause : (before.fault ≡ Some fault)
      ⊎ ((before.fault ≡ None) × (0 < length (left_of before))
      × RecordRefused before.turn before.place (left_of before) fault)
  pub kept : after.fault ≡ Some fault
  pub same_file : after.file ≡ before.file
  pub same_place : after.place ≡ before.place
  pub same_turn : after.turn ≡ before.turn
  pub same_cells : after.cells.items ≡ before.cells.items

-- the record at the place, in its turn; it holds the very part of the file that is its body, and
-- the reader stands right after it
pub record AtRecord (before : TrayReader) (record_read : Record) (after : TrayReader) : Type 0 where
  pub no_fault : before.fault ≡ None
  pub here : RecordIn before.turn before.place (left_of before) (entry_of record_read)
      after.place after.turn
  pub very : VeryPart before.file (part_of record_read)
      (body_place before.place (entry_of record_read))
  pub cells : KeptCells (entry_of record_read).kind after.turn (entry_of record_read).body
      before.cells.items after.cells.items
  pub still_none : after.fault ≡ None
  pub same_file : after.file ≡ before.file

-- One answer of the reader.
abbrev pub Next : TrayReader → Option (Result Record Fault) → TrayReader → Type 0
Next before None after = AtEnd before after
Next before (Some (Ok record_read)) after = AtRecord before record_read after
Next before (Some (Err fault)) after = AtFault before fault after

-- answers one after another: records, and then the end or a fault
abbrev pub Run : TrayReader → List Record → Option Fault → TrayReader → Type 0
Run before [] None last = Next before None last
Run before [] (Some fault) last = Next before (Some (Err fault)) last
Run before (r ∷ rs) ending last =
    (between : TrayReader) × Next before (Some (Ok r)) between × Run between rs ending last

-- records that are answered one after another
abbrev pub Answers : TrayReader → List Record → TrayReader → Type 0
Answers before [] last = last ≡ before
Answers before (r ∷ rs) last =
    (between : TrayReader) × Next before (Some (Ok r)) between × Answers between rs last

-- A reader answers no more records than half of the bytes that are left, so after as many calls and
-- one more it has answered the end or a fault.
abbrev pub AnswersEnd : Type 0
AnswersEnd =
    (before last : TrayReader) (rs : List Record) → Answers before rs last
    → 2 * length rs ≤ length (left_of before)

-- The file has records and an end: the answer is how many records it has, or the fault that it ends
-- with.
abbrev pub FileChecked : List ℕ → Result ℕ Fault → Type 0
FileChecked file (Ok count) = (es : List Entry) × File file es None × (length es ≡ count)
FileChecked file (Err fault) = (es : List Entry) × File file es (Some fault)

-- All answers over a whole file are the records and the end that the file has.
abbrev pub EveryRun : Type 0
EveryRun =
    (file : Bor (List ℕ)) (reader : TrayReader) (rs : List Record) (ending : Option Fault)
    (last : TrayReader) → Opened file reader → Run reader rs ending last
    → File file.now (map entry_of rs) ending

-- A record that stands where the reader is, in its turn, is answered as itself, and the reader then
-- stands right after it.
pub record ComesBack (before : TrayReader) (e : Entry) (answer : Option (Result Record Fault))
    (after : TrayReader) : Type 0 where
  pub found : Record
  pub is : answer ≡ Some (Ok found)
  pub same : entry_of found ≡ e
  pub end_place : after.place ≡ before.place + length (entry_bytes e)
  pub follows : Follows before.turn e after.turn
  pub very : VeryPart before.file (part_of found) (body_place before.place e)
  pub cells : KeptCells e.kind after.turn e.body before.cells.items after.cells.items
  pub still_none : after.fault ≡ None
  pub same_file : after.file ≡ before.file

abbrev pub RecordReadsBack : Type 0
RecordReadsBack =
    (before : TrayReader) (e : Entry) (next : Turn) (answer : Option (Result Record Fault))
    (after : TrayReader) → before.fault ≡ None → EntryFirst e (left_of before)
    → Follows before.turn e next → Next before answer after → ComesBack before e answer after
