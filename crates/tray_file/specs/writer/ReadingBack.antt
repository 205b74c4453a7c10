-- What is written reads back as itself.
use Rattle.std.specs.Prelude.{◌≡◌, ℕ, ◌≤◌, List, ◌++◌, length, drop, Some, None, Ok, Option, Result}
use Rattle.codes.specs.AnyCards.{any_code}
use Rattle.codes.specs.Code.{Code}
use Rattle.codes.specs.declared.cell.Cell.{Cell}
use Rattle.tray_file.specs.body.CardBodies.{CardRead}
use Rattle.tray_file.specs.body.CellBodies.{cells_body, CellsReadInto}
use Rattle.codes.specs.declared.any_card.AnyCard.{AnyCard}
use Rattle.tray_file.specs.declared.body.cells_refusal.CellsRefusal.{CellsRefusal}
use Rattle.tray_file.specs.declared.fault.body_fault.BodyFault.{BodyFault}
use Rattle.tray_file.specs.reader.Entries.{Entry, entry, entry_bytes}
use Rattle.tray_file.specs.reader.Readers.{left_of, Next, ComesBack}
use Rattle.tray_file.specs.declared.fault.Fault.{Fault}
use Rattle.tray_file.specs.declared.reader.kind.Kind.TheVariants.{Card, Cells, Note}
use Rattle.tray_file.specs.declared.reader.record.Record.{Record}
use Rattle.tray_file.specs.declared.reader.TrayReader.{TrayReader}
use Rattle.tray_file.specs.declared.reader.turn.Turn.{Turn}
use Rattle.tray_file.specs.reader.Turns.{last_card}
use Rattle.tray_file.specs.declared.reader.turn.Turn.TheVariants.{After}
use Rattle.tray_file.specs.declared.reader.turn.Allowed.TheVariants.{EveryKind}
use Rattle.tray_file.specs.declared.reader.kind.Kind.{Kind}
use Rattle.tray_file.specs.reader.Records.{Follows}
use Rattle.tray_file.specs.writer.Writers.{tray_body, CardWritten, CellsWritten, NoteWritten}
use Rattle.tray_file.specs.declared.writer.write_refusal.WriteRefusal.{WriteRefusal}

-- Whatever follows an entry's bytes, a reader that stands before them, has met no fault, and for
-- which `Ready` holds, answers that entry and then stands right after it.
abbrev pub EntryComesBack : (TrayReader → Type 0) → Entry → Type 0
EntryComesBack Ready e =
    (before : TrayReader) (rest : List ℕ) (answer : Option (Result Record Fault))
    (after : TrayReader) → Ready before → before.fault ≡ None
    → left_of before ≡ entry_bytes e ++ rest → Next before answer after
    → ComesBack before e answer after

-- A card comes back in every turn, and its body is read as that very card.
pub record CardComesBack (card : AnyCard) : Type 0 where
  pub answered : EntryComesBack (λ reader. Unit {0}) (entry Card (tray_body card))
  pub read : (r : Result AnyCard BodyFault) → CardRead (tray_body card) r → r ≡ Ok card

-- the last card that the reader has read has as many cells, and the same alphabet size
abbrev pub UnderCard : Code → TrayReader → Type 0
UnderCard code reader =
    (card : AnyCard) × (last_card reader.turn ≡ Some card)
    × (length (any_code card).locators ≡ length code.locators)
    × ((any_code card).letters ≡ code.letters)

-- Cells come back under every card of their size and alphabet, and their body is read as the same
-- cells.
pub record CellsComeBack (code : Code) (cells : List Cell) : Type 0 where
  pub answered : EntryComesBack (UnderCard code) (entry Cells (cells_body cells))
  pub read : (buffer after : List Cell) (r : Result (Unit {0}) CellsRefusal)
      → length buffer ≡ length code.locators → CellsReadInto code (cells_body cells) buffer after r
      → (r ≡ Ok tt) × (after ≡ cells)

-- the reader has read a card or cells last
abbrev pub AfterCardOrCells : TrayReader → Type 0
AfterCardOrCells reader = (card : AnyCard) × (reader.turn ≡ After card EveryKind)

-- A note comes back after a card or cells.
abbrev pub NoteComesBack : List ℕ → Type 0
NoteComesBack note = EntryComesBack AfterCardOrCells (entry Note note)

-- Into a buffer that has room for the entry, a writer with this contract puts exactly the entry's
-- bytes, and it answers how many they are.
abbrev pub Makes : (List ℕ → List ℕ → Result ℕ WriteRefusal → Type 0) → Entry → Type 0
Makes Written e =
    (before after : List ℕ) (r : Result ℕ WriteRefusal) → length (entry_bytes e) ≤ length before
    → Written before after r
    → (r ≡ Ok (length (entry_bytes e)))
    × (after ≡ entry_bytes e ++ drop (length (entry_bytes e)) before)

-- The record is the one that its writer makes: of a card, of cells under the last card, or of the
-- note.
abbrev pub IsMade : Kind → Turn → List ℕ → Type 0
IsMade Card turn body = (card : AnyCard) × Makes (CardWritten card) (entry Card body)
IsMade Cells turn body =
    (card : AnyCard) × (last_card turn ≡ Some card) × (cells : List Cell)
    × Makes (CellsWritten (any_code card) cells) (entry Cells body)
IsMade Note turn body = Makes (NoteWritten body) (entry Note body)

-- Every record that is accepted, in whatever turn, is one that its writer makes, byte for byte.
abbrev pub AcceptedIsMade : Type 0
AcceptedIsMade =
    (turn : Turn) (e : Entry) (next : Turn) → Follows turn e next → IsMade e.kind turn e.body
