-- What is inked for a line of data letters.
use Rattle.std.specs.Prelude.{◌≡◌, ℕ, ◌<◌, List, length, None, Ok, Err, Result, ◌≢◌, slice_index_or}
use Rattle.codes.specs.Cells.{blank_cell, noted}
use Rattle.codes.specs.declared.cell.Cell.{Cell}
use Rattle.decoding.specs.encoding.Encodings.{Encodes}
use Rattle.tags.specs.marks.Lines.{LineRead}
use Rattle.tags.specs.declared.marks.line.LineRefusal.{LineRefusal}
use Rattle.demo.specs.inked.InkedTag.{inked_code, inked_meaning, inked_letters, inked_data, blank_cells}
use Rattle.demo.specs.declared.inked.monday.DataRefusal.{DataRefusal}
use Rattle.demo.specs.declared.inked.monday.DataRefusal.TheVariants.{Line, Blank}

-- the first blank among the cells
pub record FirstBlank (cells : List Cell) (place : ℕ) : Type 0 where
  pub within : place < length cells
  pub blank : (slice_index_or cells place blank_cell).letter ≡ None
  pub before : (j : ℕ) → j < place → (slice_index_or cells j blank_cell).letter ≢ None

-- the letters of cells without a blank, or the place of the first blank
abbrev pub LettersOf : List Cell → Result (List ℕ) DataRefusal → Type 0
LettersOf cells (Ok letters) = cells ≡ noted letters
LettersOf cells (Err (Blank place)) = FirstBlank cells place
LettersOf cells (Err (Line refusal)) = ⊥

-- what comes of reading the marks into a cell for each data letter
abbrev pub DataRead : List ℕ → List Cell → Result (Unit {0}) LineRefusal → Type 0
DataRead marks cells answer = LineRead inked_letters marks (blank_cells inked_data) cells answer

-- The word is the only codeword of the inked card that begins with the letters that the marks stand
-- for. A line that is refused as such, or has a blank, inks nothing.
abbrev pub InkedBy : List ℕ → Result (List ℕ) DataRefusal → Type 0
InkedBy marks (Ok word) =
    (letters : List ℕ) × DataRead marks (noted letters) (Ok tt)
    × Encodes inked_meaning inked_code letters word
InkedBy marks (Err (Line refusal)) = DataRead marks (blank_cells inked_data) (Err refusal)
InkedBy marks (Err (Blank place)) =
    (cells : List Cell) × DataRead marks cells (Ok tt) × FirstBlank cells place
