-- Reading: which codeword is near the cells, and what a read answers.
use Rattle.std.specs.Prelude.{◌≡◌, ℕ, ◌+◌, ◌*◌, ◌<◌, ◌≤◌, Bool, true, false, cond, List, [], ◌∷◌, length, Some, None, Ok, Err, Option, Result, ◌==◌, ◌≢◌}
use Rattle.algebra.specs.Meaning.{Arithmetic, Meaning}
use Rattle.codes.specs.Code.{Code}
use Rattle.codes.specs.Checked.{Checked}
use Rattle.codes.specs.Cells.{blanks}
use Rattle.codes.specs.Codeword.{Codeword}
use Rattle.codes.specs.Standings.{Lettered}
use Rattle.codes.specs.declared.cell.Cell.{Cell}
use Rattle.decoding.specs.declared.reading.read_answer.Counts.{Counts}
use Rattle.decoding.specs.declared.reading.read_answer.ReadRefusal.{ReadRefusal}
use Rattle.decoding.specs.declared.reading.read_answer.ReadRefusal.TheVariants.{WrongLength, TooBlank, Lost}

-- whether a noted letter is another than x
abbrev pub differs : Option ℕ → ℕ → Bool
differs None x = false
differs (Some letter) x = cond (letter == x) false true

abbrev pub one_if_wrong : Option ℕ → ℕ → ℕ
one_if_wrong None x = 0
one_if_wrong (Some letter) x = cond (letter == x) 0 1

-- the number of noted cells whose letter differs from the word's
abbrev pub wrong : List Cell → List ℕ → ℕ
wrong [] word = 0
wrong (cell ∷ cells) [] = 0
wrong (cell ∷ cells) (x ∷ word) = one_if_wrong cell.letter x + wrong cells word

-- the rows that near, too blank and lost count by: the code's rows
abbrev pub reach : Code → ℕ
reach code = code.rows

-- a codeword that the cells differ from so little that it is the only one
pub record Near (A : Arithmetic) (code : Code) (cells : List Cell) (word : List ℕ) : Type 0 where
  pub codeword : Codeword A code word
  pub close : 2 * wrong cells word + blanks cells ≤ reach code

abbrev pub read_number : ReadRefusal → ℕ
read_number WrongLength = 25
read_number TooBlank = 23
read_number Lost = 24

-- The near codeword is shown with its two counts, and it is the only one; or the read is refused,
-- in this order: 25 where the buffer has another length than the word, 23 where more cells are
-- blank than the reach, 24 where no codeword is near. A refused read leaves the buffer as it was.
abbrev pub Reading : Arithmetic → Code → List Cell → List ℕ → List ℕ
    → Result Counts ReadRefusal → Type 0
Reading A code cells before after (Ok counts) =
    (length before ≡ length code.locators) × Near A code cells after
    × ((word : List ℕ) → Near A code cells word → word ≡ after)
    × (counts.wrong ≡ wrong cells after) × (counts.blank ≡ blanks cells)
Reading A code cells before after (Err WrongLength) =
    (read_number WrongLength ≡ 25) × (length before ≢ length code.locators) × (after ≡ before)
Reading A code cells before after (Err TooBlank) =
    (read_number TooBlank ≡ 23)
    × (length before ≡ length code.locators) × (reach code < blanks cells) × (after ≡ before)
Reading A code cells before after (Err Lost) =
    (read_number Lost ≡ 24)
    × (length before ≡ length code.locators) × (blanks cells ≤ reach code)
    × ((word : List ℕ) → Near A code cells word → ⊥) × (after ≡ before)

-- whatever the cells and the buffer, exactly one outcome of a read meets this: an answer and what
-- the buffer then holds
abbrev pub OneReading : Type 0
OneReading =
    (m : Meaning) (code : Code) → Checked m code
    → (cells : List Cell) → length cells ≡ length code.locators → Lettered code.letters cells
    → (before : List ℕ)
    → (after : List ℕ) × (answer : Result Counts ReadRefusal)
    × Reading m.arithmetic code cells before after answer
    × ((other_after : List ℕ) (other : Result Counts ReadRefusal)
    → Reading m.arithmetic code cells before other_after other
    → (other_after ≡ after) × (other ≡ answer))
