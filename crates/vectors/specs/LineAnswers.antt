-- The text that answers a line of marks.
use Rattle.std.specs.Prelude.{◌≡◌, ℕ, List, [], ◌∷◌, ◌++◌, Ok, Err, Result, replicate, codes, decimal}
use Rattle.std.specs.List.{before_first, after_first}
use Rattle.std.specs.Str.{chars}
use Rattle.codes.specs.Cells.{blank_cell}
use Rattle.codes.specs.WordText.{cells_text}
use Rattle.codes.specs.declared.cell.Cell.{Cell}
use Rattle.tags.specs.marks.Lines.{LineRead, line_number}
use Rattle.tags.specs.declared.marks.line.LineRefusal.{LineRefusal}
use Rattle.tags.specs.declared.marks.line.LineRefusal.TheVariants.{WrongLength, UnmarkedAlphabet, BadMark}
use Rattle.vectors.specs.Answers.{RefusedText}
use Rattle.vectors.specs.Parts.{semicolon, numbers_in}

-- the refusal, and of a bad mark its place
abbrev pub LineRefusedText : LineRefusal → List ℕ → Type 0
LineRefusedText WrongLength text = RefusedText (line_number WrongLength) text
LineRefusedText UnmarkedAlphabet text = RefusedText (line_number UnmarkedAlphabet) text
LineRefusedText (BadMark place) text =
    (refusal : List ℕ) × RefusedText (line_number (BadMark place)) refusal
    × (text ≡ refusal ++ (codes " at " ++ decimal place))

abbrev pub LineText : Result (Unit {0}) LineRefusal → List Cell → List ℕ → Type 0
LineText (Ok done) cells text = text ≡ codes "line" ++ cells_text cells
LineText (Err refusal) cells text = LineRefusedText refusal text

-- of a text of the letters and the cells; marks: the marks read into so many blank cells, or the
-- refusal
abbrev pub LineAnswered : List ℕ → List ℕ → Type 0
LineAnswered argument text =
    (letters : ℕ) × (count : ℕ) × (cells : List Cell) × (answer : Result (Unit {0}) LineRefusal)
    × (numbers_in (before_first semicolon argument) ≡ letters ∷ count ∷ [])
    × LineRead letters (chars (after_first semicolon argument)) (replicate count blank_cell)
    cells answer
    × LineText answer cells text
