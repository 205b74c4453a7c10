-- Records as bytes.
use Rattle.std.specs.Prelude.{◌≡◌, ℕ, ◌+◌, List, ◌++◌, length}
use Rattle.std.specs.Borrow.{Bor}
use Rattle.tray_file.specs.number.Numbers.{number_bytes}
use Rattle.tray_file.specs.reader.RecordKinds.{kind_number}
use Rattle.tray_file.specs.declared.reader.kind.Kind.{Kind}
use Rattle.tray_file.specs.declared.reader.kind.Kind.TheVariants as kind
use Rattle.tray_file.specs.declared.reader.record.Record.{Record}
use Rattle.tray_file.specs.declared.reader.record.Record.TheVariants.{Card, Cells, Note}

-- a record's kind and body
pub record Entry : Type 0 where
  pub kind : Kind
  pub body : List ℕ

abbrev pub entry : Kind → List ℕ → Entry
entry k b = record { kind = k; body = b }

abbrev pub entry_of : Record → Entry
entry_of (Card part) = entry kind.Card part.now
entry_of (Cells part) = entry kind.Cells part.now
entry_of (Note part) = entry kind.Note part.now

-- the part of the file that a record holds
abbrev pub part_of : Record → Bor (List ℕ)
part_of (Card part) = part
part_of (Cells part) = part
part_of (Note part) = part

-- the part stands in the file's own memory, from this place of the file on
pub record VeryPart (file part : Bor (List ℕ)) (start : ℕ) : Type 0 where
  pub block : part.ref_ptr.0 ≡ file.ref_ptr.0
  pub offset : part.ref_ptr.1 ≡ file.ref_ptr.1 + start

-- A record is its kind, the length of its body in bytes, and the body.
abbrev pub record_bytes : ℕ → List ℕ → List ℕ
record_bytes kind_number part = number_bytes kind_number ++ (number_bytes (length part) ++ part)

abbrev pub entry_bytes : Entry → List ℕ
entry_bytes e = record_bytes (kind_number e.kind) e.body

-- where the body of an entry at a place stands: after its kind and its length
abbrev pub body_place : ℕ → Entry → ℕ
body_place place e =
    place + length (number_bytes (kind_number e.kind)) + length (number_bytes (length e.body))
