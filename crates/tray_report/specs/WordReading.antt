-- The word that cells mean under their card.
use Rattle.std.specs.Prelude.{◌≡◌, ℕ, List, length, Ok, Err, Result}
use Rattle.algebra.specs.Meaning.{Arithmetic}
use Rattle.codes.specs.Code.{Code}
use Rattle.codes.specs.Standings.{Lettered}
use Rattle.codes.specs.declared.cell.Cell.{Cell}
use Rattle.decoding.specs.reading.Reading.{Reading}
use Rattle.decoding.specs.declared.reading.read_answer.Counts.{Counts}
use Rattle.decoding.specs.declared.reading.read_answer.ReadRefusal.{ReadRefusal}
use Rattle.tray_report.specs.declared.word_read.WordRead.{WordRead}

-- a cell for each locator, and every noted letter in the alphabet
pub record CellsFit (code : Code) (cells : List Cell) : Type 0 where
  pub count : length cells ≡ length code.locators
  pub lettered : Lettered code.letters cells

-- the cells read so, into some buffer of n numbers
pub record CellsRead (A : Arithmetic) (code : Code) (cells : List Cell) (after : List ℕ)
    (answer : Result Counts ReadRefusal) : Type 0 where
  pub before : List ℕ
  pub long : length before ≡ length code.locators
  pub reading : Reading A code cells before after answer

-- The word near the cells, with its two counts, or why they do not read.
abbrev pub WordFound : Arithmetic → Code → List Cell → Result WordRead ReadRefusal → Type 0
WordFound A code cells (Ok word) = CellsRead A code cells word.letters (Ok word.counts)
WordFound A code cells (Err refusal) = (after : List ℕ) × CellsRead A code cells after (Err refusal)
