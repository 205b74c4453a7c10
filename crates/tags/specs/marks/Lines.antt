-- Lines of marks.
use Rattle.std.specs.Prelude.{◌≡◌, ℕ, ◌<◌, ◌≤◌, cond, List, length, Some, None, Ok, Err, Option, Result, ◌≢◌, nat_lt, slice_index, slice_index_or}
use Rattle.codes.specs.declared.cell.Cell.{Cell}
use Rattle.codes.specs.Cells.{blank_cell}
use Rattle.tags.specs.marks.Marks.{cell_of_mark, marked_letters}
use Rattle.tags.specs.declared.marks.line.LineRefusal.{LineRefusal}
use Rattle.tags.specs.declared.marks.line.LineRefusal.TheVariants.{WrongLength, UnmarkedAlphabet, BadMark}

-- a cell, unless it holds a number that is no letter
abbrev pub lettered_cell : ℕ → Option ℕ → Cell → Option Cell
lettered_cell letters None cell = Some cell
lettered_cell letters (Some letter) cell = cond (nat_lt letter letters) (Some cell) None

abbrev pub lettered_option : ℕ → Option Cell → Option Cell
lettered_option letters None = None
lettered_option letters (Some cell) = lettered_cell letters cell.letter cell

-- the cell that a mark stands for in an alphabet: a blank or a letter below the alphabet size
abbrev pub marked_cell : ℕ → ℕ → Option Cell
marked_cell letters mark = lettered_option letters (cell_of_mark mark)

-- each mark stands for its cell
pub record Marked (letters : ℕ) (marks : List ℕ) (cells : List Cell) : Type 0 where
  pub long : length cells ≡ length marks
  pub each : (j : ℕ) → j < length marks
      → marked_cell letters (slice_index marks j) ≡ Some (slice_index_or cells j blank_cell)

abbrev pub line_number : LineRefusal → ℕ
line_number WrongLength = 25
line_number UnmarkedAlphabet = 28
line_number (BadMark place) = 28

-- the first mark that stands for no cell in the alphabet
abbrev pub FirstBad : ℕ → List ℕ → Option ℕ → Type 0
FirstBad letters marks None =
    (j : ℕ) → j < length marks → marked_cell letters (slice_index marks j) ≢ None
FirstBad letters marks (Some place) =
    (place < length marks) × (marked_cell letters (slice_index marks place) ≡ None)
    × ((j : ℕ) → j < place → marked_cell letters (slice_index marks j) ≢ None)

-- A line of as many marks as there are cells sets them all. It is refused, in this order, where its
-- length is another, where the alphabet has letters without a mark, and at the first mark that is
-- no letter of the alphabet and no blank. A refused line leaves the cells as they were.
abbrev pub LineRead : ℕ → List ℕ → List Cell → List Cell → Result (Unit {0}) LineRefusal → Type 0
LineRead letters marks before after (Ok done) =
    (length marks ≡ length before) × (letters ≤ marked_letters) × Marked letters marks after
LineRead letters marks before after (Err WrongLength) =
    (line_number WrongLength ≡ 25) × (length marks ≢ length before) × (after ≡ before)
LineRead letters marks before after (Err UnmarkedAlphabet) =
    (line_number UnmarkedAlphabet ≡ 28) × (length marks ≡ length before)
    × (marked_letters < letters) × (after ≡ before)
LineRead letters marks before after (Err (BadMark place)) =
    (line_number (BadMark place) ≡ 28) × (length marks ≡ length before)
    × (letters ≤ marked_letters) × FirstBad letters marks (Some place) × (after ≡ before)
