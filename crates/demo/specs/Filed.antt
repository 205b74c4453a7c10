-- What goes into a tray file of an inked tag.
use Rattle.std.specs.Prelude.{◌≡◌, ℕ, List, ◌++◌, Ok, Err, Result}
use Rattle.fields.specs.Kinds.{prime_kind}
use Rattle.codes.specs.Standings.{Lettered}
use Rattle.codes.specs.declared.cell.Cell.{Cell}
use Rattle.codes.specs.house.HouseRows.{inked}
use Rattle.demo.specs.inked.InkedTag.{inked_code, inked_letters}
use Rattle.tray_file.specs.body.CardBodies.{card_body}
use Rattle.tray_file.specs.body.CellBodies.{cells_body}
use Rattle.tray_file.specs.reader.Entries.{record_bytes}
use Rattle.tray_file.specs.reader.RecordKinds.{kind_number}
use Rattle.tray_file.specs.declared.reader.kind.Kind.TheVariants.{Card, Cells}
use Rattle.tray_file.specs.declared.writer.write_refusal.WriteRefusal.{WriteRefusal}
use Rattle.tray_file.specs.declared.writer.write_refusal.WriteRefusal.TheVariants.{NoLetter, WrongLength, BadNote, TooSmall}
use Rattle.arrayvec.specs.ArrayVec.{ArrayVec}

-- the record of the inked card
unfoldable pub card_record : List ℕ
card_record = record_bytes (kind_number Card) (card_body prime_kind inked.origin inked_code)

-- the record of cells
unfoldable pub cells_record : List Cell → List ℕ
cells_record cells = record_bytes (kind_number Cells) (cells_body cells)

-- The file is the card's record and the cells'. It is refused only where a cell holds no letter:
-- both records always fit.
abbrev pub FiledTag : List Cell → Result (ArrayVec ℕ) WriteRefusal → Type 0
FiledTag cells (Ok file) =
    Lettered inked_letters cells × (file.items ≡ card_record ++ cells_record cells)
FiledTag cells (Err NoLetter) = Lettered inked_letters cells → ⊥
FiledTag cells (Err TooSmall) = ⊥
FiledTag cells (Err WrongLength) = ⊥
FiledTag cells (Err BadNote) = ⊥
