-- What is noted and read, and when a reading is right.
use Rattle.std.specs.Prelude.{◌≡◌, ℕ, ◌*◌, ◌<◌, List, length, replicate, slice_index, slice_index_or, Some, None, Option, Ok, Err, Result}
use Rattle.algebra.specs.Meaning.{Arithmetic, Meaning}
use Rattle.codes.specs.Code.{Code}
use Rattle.codes.specs.Cells.{blanks, blank_cell, noted_cell}
use Rattle.codes.specs.declared.cell.Cell.{Cell}
use Rattle.decoding.specs.encoding.Encodings.{Encoded, EncodeRefused}
use Rattle.decoding.specs.declared.encoding.encode_refusal.EncodeRefusal.{EncodeRefusal}
use Rattle.decoding.specs.reading.Reading.{Near, wrong}
use Rattle.bench.specs.Damaged.{noted_letter}
use Rattle.bench.specs.declared.damage.Damage.{Damage}

-- the data letters: 0, 5, 10 and so on
pub record ByFives (letters : List ℕ) : Type 0 where
  pub count : length letters ≡ 48
  pub each : (j : ℕ) → j < length letters → slice_index letters j ≡ 5 * j

-- a buffer for a word
abbrev pub empty_word : List ℕ
empty_word = replicate 64 0

-- the data letters, encoded, or the refusal in its case
abbrev pub WordOf : Meaning → Code → List ℕ → Result (List ℕ) EncodeRefusal → Type 0
WordOf m code letters (Ok word) = Encoded m code letters empty_word word (Ok tt)
WordOf m code letters (Err refusal) = EncodeRefused m code letters empty_word refusal

abbrev pub SomeWord : Meaning → Code → Result (List ℕ) EncodeRefusal → Type 0
SomeWord m code result = (letters : List ℕ) × ByFives letters × WordOf m code letters result

-- a cell after the note of a letter, if there is one
abbrev pub noted_over : Option ℕ → Cell → Cell
noted_over None cell = cell
noted_over (Some letter) cell = noted_cell letter

abbrev pub cell_at : List Cell → ℕ → Cell
cell_at cells j = slice_index_or cells j blank_cell

-- the cells after the word is noted with this damage: the first as they were, then wrong ones, then
-- the word's letters
pub record NotedDamaged (damage : Damage) (word : List ℕ) (before after : List Cell) : Type 0 where
  pub count : length after ≡ length before
  pub each : (j : ℕ) → j < length before
      → cell_at after j ≡ noted_over (noted_letter damage j (slice_index word j)) (cell_at before j)

-- the word is near the cells, and differs from them by this damage
pub record ReadRight (A : Arithmetic) (code : Code) (cells : List Cell) (word : List ℕ)
    (damage : Damage) : Type 0 where
  pub near : Near A code cells word
  pub wrong_is : wrong cells word ≡ damage.wrong
  pub blank_is : blanks cells ≡ damage.blank
