-- What each writer writes, and when it refuses.
use Rattle.std.specs.Prelude.{◌≡◌, ℕ, ◌+◌, ◌^◌, ◌<◌, ◌≤◌, List, length, Some, None, Ok, Err, Option, Result, ◌≢◌}
use Rattle.algebra.specs.Limits.{largest_cells, largest_rows}
use Rattle.codes.specs.Code.{Code}
use Rattle.codes.specs.Cards.{card_code}
use Rattle.codes.specs.Standings.{Lettered}
use Rattle.fields.specs.Kinds.{prime_kind, binary_kind}
use Rattle.codes.specs.declared.cell.Cell.{Cell}
use Rattle.tray_file.specs.number.Numbers.{largest_number}
use Rattle.tray_file.specs.body.NumberLists.{Small}
use Rattle.tray_file.specs.body.CardBodies.{card_body}
use Rattle.tray_file.specs.body.CellBodies.{cells_body}
use Rattle.tray_file.specs.body.Notes.{PlainNote}
use Rattle.codes.specs.declared.any_card.AnyCard.{AnyCard}
use Rattle.codes.specs.declared.any_card.AnyCard.TheVariants.{Prime, Binary}
use Rattle.tray_file.specs.reader.RecordKinds.{kind_number}
use Rattle.tray_file.specs.declared.reader.kind.Kind.TheVariants.{Card, Cells, Note}
use Rattle.tray_file.specs.writer.WriteRefusals.{write_refusal_number}
use Rattle.tray_file.specs.writer.Writing.{Put, NoRoom, RecordWritten}
use Rattle.tray_file.specs.declared.writer.write_refusal.WriteRefusal.{WriteRefusal}
use Rattle.tray_file.specs.declared.writer.write_refusal.WriteRefusal.TheVariants.{NoLetter, WrongLength, BadNote, TooSmall}

-- the body of a card
abbrev pub tray_body : AnyCard → List ℕ
tray_body (Prime card) = card_body prime_kind card.field.prime (card_code card)
tray_body (Binary card) = card_body binary_kind card.field.modulus (card_code card)

-- values that can be written as numbers
pub record Writable (kind origin : ℕ) (code : Code) : Type 0 where
  pub kind_small : kind ≤ largest_number
  pub origin_small : origin ≤ largest_number
  pub letters_small : code.letters ≤ largest_number
  pub few_rows : code.rows ≤ largest_rows
  pub few_locators : length code.locators ≤ largest_cells
  pub few_multipliers : length code.multipliers ≤ largest_cells
  pub small_locators : Small code.locators
  pub small_multipliers : Small code.multipliers

-- The card's record stands at the buffer's front; or 38 where the buffer is too small, and as it
-- was.
abbrev pub CardWritten : AnyCard → List ℕ → List ℕ → Result ℕ WriteRefusal → Type 0
CardWritten card before after r = RecordWritten (kind_number Card) (tray_body card) before after r

-- a letter that leaves room for the next number
abbrev pub LetterFits : Option ℕ → Type 0
LetterFits None = Unit {0}
LetterFits (Some letter) = letter + 1 < 2 ^ 32

-- The cells' record stands at the buffer's front. Else the buffer is as it was, and in this order:
-- 25 where the list is not n long, 22 where a cell holds no letter, 38 where the buffer is too
-- small.
abbrev pub CellsWritten : Code → List Cell → List ℕ → List ℕ → Result ℕ WriteRefusal → Type 0
CellsWritten code cells before after (Ok written) =
    (length cells ≡ length code.locators) × Lettered code.letters cells
    × Put (kind_number Cells) (cells_body cells) before after written
CellsWritten code cells before after (Err WrongLength) =
    (write_refusal_number WrongLength ≡ 25)
    × (length cells ≢ length code.locators) × (after ≡ before)
CellsWritten code cells before after (Err NoLetter) =
    (write_refusal_number NoLetter ≡ 22)
    × (length cells ≡ length code.locators) × (Lettered code.letters cells → ⊥) × (after ≡ before)
CellsWritten code cells before after (Err TooSmall) =
    (write_refusal_number TooSmall ≡ 38)
    × (length cells ≡ length code.locators) × Lettered code.letters cells
    × NoRoom (kind_number Cells) (cells_body cells) before after
CellsWritten code cells before after (Err BadNote) = ⊥

-- The note's record stands at the buffer's front. Else the buffer is as it was, and in this order:
-- 36 where the note is too long or not plain, 38 where the buffer is too small.
abbrev pub NoteWritten : List ℕ → List ℕ → List ℕ → Result ℕ WriteRefusal → Type 0
NoteWritten note before after (Ok written) =
    PlainNote note × Put (kind_number Note) note before after written
NoteWritten note before after (Err BadNote) =
    (write_refusal_number BadNote ≡ 36) × (PlainNote note → ⊥) × (after ≡ before)
NoteWritten note before after (Err TooSmall) =
    (write_refusal_number TooSmall ≡ 38)
    × PlainNote note × NoRoom (kind_number Note) note before after
NoteWritten note before after (Err NoLetter) = ⊥
NoteWritten note before after (Err WrongLength) = ⊥
