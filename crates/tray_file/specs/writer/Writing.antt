-- One record at the front of a buffer.
use Rattle.std.specs.Prelude.{◌≡◌, ℕ, ◌+◌, ◌<◌, ◌≤◌, List, ◌++◌, length, drop, Ok, Err, Result}
use Rattle.algebra.specs.Limits.{largest_cells}
use Rattle.tray_file.specs.number.Numbers.{number_bytes}
use Rattle.tray_file.specs.writer.Pages.{Added}
use Rattle.tray_file.specs.declared.writer.page.Page.{Page}
use Rattle.tray_file.specs.body.NumberLists.{numbers, Small}
use Rattle.tray_file.specs.reader.Entries.{record_bytes}
use Rattle.tray_file.specs.writer.WriteRefusals.{write_refusal_number}
use Rattle.tray_file.specs.declared.writer.write_refusal.WriteRefusal.{WriteRefusal}
use Rattle.tray_file.specs.declared.writer.write_refusal.WriteRefusal.TheVariants.{NoLetter, WrongLength, BadNote, TooSmall}
use Rattle.tray_file.specs.declared.writer.record_writing.BodyNumbers.{BodyNumbers}

-- a record's kind and the length of its body
abbrev pub record_header : ℕ → ℕ → List ℕ
record_header kind size = number_bytes kind ++ number_bytes size

-- the bytes of a body's numbers
abbrev pub body_numbers : BodyNumbers → List ℕ
body_numbers body = numbers body.head.now ++ (numbers body.first.now ++ numbers body.second.now)

-- lists that are not too long, of numbers that are not too large
pub record NumberRecord (body : BodyNumbers) : Type 0 where
  pub head_short : length body.head.now ≤ largest_cells
  pub first_short : length body.first.now ≤ largest_cells
  pub second_short : length body.second.now ≤ largest_cells
  pub head_small : Small body.head.now
  pub first_small : Small body.first.now
  pub second_small : Small body.second.now

-- the record's bytes stand at the front of the buffer, the rest is as it was, and the answer is
-- their number
pub record Put (kind : ℕ) (body before after : List ℕ) (written : ℕ) : Type 0 where
  pub room : length (record_bytes kind body) ≤ length before
  pub bytes : after ≡ record_bytes kind body ++ drop (length (record_bytes kind body)) before
  pub size : written ≡ length (record_bytes kind body)

-- the buffer can't take the record, and is as it was
pub record NoRoom (kind : ℕ) (body before after : List ℕ) : Type 0 where
  pub small : length before < length (record_bytes kind body)
  pub same : after ≡ before

-- The header stands at the buffer's front, and the answer is the place after it; or the buffer
-- can't take a body of that size too, and is as it was.
abbrev pub HeaderWritten : ℕ → ℕ → Page → Page → Result (Unit {0}) WriteRefusal → Type 0
HeaderWritten kind size before after (Ok done) =
    (length (record_header kind size) + size ≤ length before.buffer.now)
    × Added (record_header kind size) before after
HeaderWritten kind size before after (Err TooSmall) =
    (length before.buffer.now < length (record_header kind size) + size) × (after ≡ before)
HeaderWritten kind size before after (Err NoLetter) = ⊥
HeaderWritten kind size before after (Err WrongLength) = ⊥
HeaderWritten kind size before after (Err BadNote) = ⊥

-- The record stands at the buffer's front; or 38 where the buffer can't take it, and is as it was.
abbrev pub RecordWritten : ℕ → List ℕ → List ℕ → List ℕ → Result ℕ WriteRefusal → Type 0
RecordWritten kind body before after (Ok written) = Put kind body before after written
RecordWritten kind body before after (Err TooSmall) =
    (write_refusal_number TooSmall ≡ 38) × NoRoom kind body before after
RecordWritten kind body before after (Err NoLetter) = ⊥
RecordWritten kind body before after (Err WrongLength) = ⊥
RecordWritten kind body before after (Err BadNote) = ⊥
