-- The law over runs: of every journal of a tag's calls and answers.
use Rattle.std.specs.Prelude.{◌≡◌, ℕ, ◌-◌, ◌<◌, ◌≤◌, ◌↔◌, true, cond, List, map, length, take, drop, is_ok, IsTrue, Some, None, Ok, Err, Option, Result, ◌==◌, nat_le, slice_index, slice_index_or}
use Rattle.std.specs.Borrow.{Bor}
use Rattle.std.specs.List.{slice_get}
use Rattle.std.specs.Str.{chars}
use Rattle.algebra.specs.Meaning.{Arithmetic}
use Rattle.codes.specs.Code.{Code}
use Rattle.codes.specs.Cells.{blank_cell, blanks}
use Rattle.codes.specs.declared.cell.Cell.{Cell}
use Rattle.tags.specs.marks.Lines.{LineRead, line_number}
use Rattle.decoding.specs.reading.Reading.{wrong, reach, Near, Reading, read_number}
use Rattle.tags.specs.tag.Sheet.{width, refusal_of_note, refusal_of_wipe, refusal_of_line, after_line, refused}
use Rattle.tags.specs.tag.Tags.{note_number, wipe_number}
use Rattle.tags.specs.runs.Calls.{call_of, sheet_of}
use Rattle.tags.specs.runs.Rooms.{used}
use Rattle.tags.specs.declared.runs.call.Call.{Call}
use Rattle.tags.specs.declared.runs.call.Call.TheVariants as call
use Rattle.tags.specs.declared.runs.event.Event.{Event}
use Rattle.tags.specs.declared.runs.event.Event.TheVariants.{Note, Wipe, Line, Read}
use Rattle.decoding.specs.declared.reading.read_answer.Counts.{Counts}
use Rattle.decoding.specs.declared.reading.read_answer.ReadRefusal.{ReadRefusal}

-- the sheet before the event at place i: it is fed the code and the arguments of the calls before
abbrev pub sheet_at : Code → List Event → ℕ → List Cell
sheet_at code journal i = sheet_of code (map call_of (take i journal))

-- what is left of the room for the event at place i, after the reads of the calls before
abbrev pub left_at : List ℕ → List Event → ℕ → List ℕ
left_at room journal i = drop (used (map call_of (take i journal))) room

-- A read is lent the next numbers of what is left of the room, as many as it shows, and it shows
-- what they hold after it.
pub record ReadNext (A : Arithmetic) (code : Code) (sheet : List Cell) (left : List ℕ)
    (answer : Result Counts ReadRefusal) (shown : List ℕ) : Type 0 where
  pub within : length shown ≤ length left
  pub reading : Reading A code sheet (take (length shown) left) shown answer

-- a note, a wipe and a line have the sheet's own answer, and a read is one of the sheet
abbrev pub Answered : Arithmetic → Code → List Cell → List ℕ → Event → Type 0
Answered A code sheet left (Note cell letter answer) =
    refused note_number answer ≡ refusal_of_note code cell letter
Answered A code sheet left (Wipe cell answer) =
    refused wipe_number answer ≡ refusal_of_wipe code cell
Answered A code sheet left (Line text answer) =
    (refused line_number answer ≡ refusal_of_line code (chars text.now))
    × LineRead code.letters (chars text.now) sheet (after_line code (chars text.now) sheet) answer
Answered A code sheet left (Read answer shown) = ReadNext A code sheet left answer shown.now

-- the number that a read into `size` numbers has where it is refused: wrong length, too blank, lost
abbrev pub read_refusal : Code → List Cell → ℕ → ℕ
read_refusal code sheet size =
    cond (size == width code) (cond (nat_le (blanks sheet) (reach code)) 24 23) 25

-- the event is a granted read that shows the word
abbrev pub Shows : List ℕ → Event → Type 0
Shows word (Note cell letter answer) = ⊥
Shows word (Wipe cell answer) = ⊥
Shows word (Line text answer) = ⊥
Shows word (Read answer shown) = (is_ok answer ≡ true) × (shown.now ≡ word)

-- a cell that is blank or differs from the word's letter
abbrev pub BlankOrWrong : Option ℕ → ℕ → Type 0
BlankOrWrong None x = Unit {0}
BlankOrWrong (Some letter) x = letter ≡ x → ⊥

-- The call is no accepted line, no accepted note of another letter than the word's, and no accepted
-- wipe of a cell that agrees with the word.
abbrev pub Keeps : Code → List ℕ → List Cell → Call → Type 0
Keeps code word sheet (call.Note cell letter) =
    refusal_of_note code cell letter ≡ None → letter ≡ slice_index word (cell - 1)
Keeps code word sheet (call.Wipe cell) =
    refusal_of_wipe code cell ≡ None
    → BlankOrWrong (slice_index_or sheet (cell - 1) blank_cell).letter (slice_index word (cell - 1))
Keeps code word sheet (call.Line text) = refusal_of_line code (chars text.now) ≡ None → ⊥
Keeps code word sheet (call.Read size) = Unit {0}

-- The law, of each place of the journal.
pub record RunLaw (A : Arithmetic) (code : Code) (room : List ℕ) (journal : List Event)
    : Type 0 where
  -- every answer is the sheet's
  pub answers : (i : ℕ) (event : Event) → slice_get journal i ≡ Some event
      → Answered A code (sheet_at code journal i) (left_at room journal i) event
  -- a read is granted exactly when it is lent n numbers and some codeword is near the sheet
  pub granted : (i : ℕ) (answer : Result Counts ReadRefusal) (shown : Bor (List ℕ))
      → slice_get journal i ≡ Some (Read answer shown)
      → IsTrue (is_ok answer) ↔ ((length shown.now ≡ width code)
      × ((word : List ℕ) × Near A code (sheet_at code journal i) word))
  -- a granted read shows the only codeword near the sheet, and its counts are those of the sheet
  -- and that word
  pub shown : (i : ℕ) (counts : Counts) (shown : Bor (List ℕ))
      → slice_get journal i ≡ Some (Read (Ok counts) shown)
      → Near A code (sheet_at code journal i) shown.now
      × ((word : List ℕ) → Near A code (sheet_at code journal i) word → word ≡ shown.now)
      × (counts.wrong ≡ wrong (sheet_at code journal i) shown.now)
      × (counts.blank ≡ blanks (sheet_at code journal i))
  -- a refused read has its number, and leaves the numbers that it was lent as the room had them
  pub refused_read : (i : ℕ) (refusal : ReadRefusal) (shown : Bor (List ℕ))
      → slice_get journal i ≡ Some (Read (Err refusal) shown)
      → (read_number refusal ≡ read_refusal code (sheet_at code journal i) (length shown.now))
      × (shown.now ≡ take (length shown.now) (left_at room journal i))
  -- after a granted read that showed a word, as long as every call keeps it, a read into n numbers
  -- is granted and shows that word
  pub stays : (i j : ℕ) (word : List ℕ) (first last : Event) → i < j
      → slice_get journal i ≡ Some first → Shows word first
      → ((k : ℕ) (event : Event) → i < k → k < j → slice_get journal k ≡ Some event
      → Keeps code word (sheet_at code journal k) (call_of event))
      → slice_get journal j ≡ Some last → call_of last ≡ call.Read (width code) → Shows word last
