-- What an inked tag reads as on which a line was found.
use Rattle.std.specs.Prelude.{◌≡◌, ℕ, List, replicate, Ok, Err, Result}
use Rattle.std.specs.Borrow.{Bor}
use Rattle.tags.specs.declared.runs.event.Event.{Event}
use Rattle.tags.specs.declared.runs.event.Event.TheVariants as event
use Rattle.decoding.specs.reading.Reading.{Reading}
use Rattle.decoding.specs.declared.reading.read_answer.Counts.{Counts}
use Rattle.decoding.specs.declared.reading.read_answer.ReadRefusal.{ReadRefusal}
use Rattle.codes.specs.declared.cell.Cell.{Cell}
use Rattle.demo.specs.inked.InkedTag.{inked_code, inked_arithmetic, inked_cells, blank_cells}
use Rattle.demo.specs.inked.Inspected.{CellsRead}
use Rattle.demo.specs.declared.found.TagRead.{TagRead}
use Rattle.demo.specs.declared.found.Unread.{Unread}
use Rattle.demo.specs.declared.found.Unread.TheVariants.{Line, Read}

-- a buffer for the word
abbrev pub empty_word : List ℕ
empty_word = replicate inked_cells 0

-- what comes of reading the cells, where a buffer for the word is lent
abbrev pub CellsReadAs : List Cell → List ℕ → Result Counts ReadRefusal → Type 0
CellsReadAs cells word answer = Reading inked_arithmetic inked_code cells empty_word word answer

-- the event is a read with this answer, which showed this word
abbrev pub ReadShown : Event → Result Counts ReadRefusal → List ℕ → Type 0
ReadShown happened answer word =
    (shown : Bor (List ℕ)) × (happened ≡ event.Read answer shown) × (shown.now ≡ word)

-- A line that is refused is so in its case. Else the cells are those that its marks stand for, and
-- they are read: the word is the only codeword near them, with its counts, or the refusal is given
-- in its case.
abbrev pub FoundOn : List ℕ → Result TagRead Unread → Type 0
FoundOn marks (Err (Line refusal)) = CellsRead marks (blank_cells inked_cells) (Err refusal)
FoundOn marks (Err (Read refusal)) =
    (cells : List Cell) × CellsRead marks cells (Ok tt) × CellsReadAs cells empty_word (Err refusal)
FoundOn marks (Ok read) =
    (cells : List Cell) × CellsRead marks cells (Ok tt)
    × CellsReadAs cells read.word (Ok read.counts)
