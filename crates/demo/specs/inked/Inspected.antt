-- What is said of a line of marks on the inked card.
use Rattle.std.specs.Prelude.{◌≡◌, ℕ, List, Ok, Err, Result}
use Rattle.codes.specs.declared.cell.Cell.{Cell}
use Rattle.codes.specs.Sums.{syndromes}
use Rattle.codes.specs.Standings.{Judged}
use Rattle.tags.specs.marks.Lines.{LineRead}
use Rattle.tags.specs.declared.marks.line.LineRefusal.{LineRefusal}
use Rattle.demo.specs.inked.InkedTag.{inked_code, inked_arithmetic, inked_letters, inked_cells, blank_cells}
use Rattle.demo.specs.declared.inked.inspect.Inspection.{Inspection}

-- The sums are those of the cells over the card's field, and the standing is true of them.
pub record InspectedCells (cells : List Cell) (i : Inspection) : Type 0 where
  pub cells_are : i.cells ≡ cells
  pub sums_are : i.sums ≡ syndromes inked_arithmetic inked_code cells
  pub standing_is : Judged inked_arithmetic inked_code cells i.standing

-- what comes of reading the marks into a cell for each of the card's
abbrev pub CellsRead : List ℕ → List Cell → Result (Unit {0}) LineRefusal → Type 0
CellsRead marks cells answer = LineRead inked_letters marks (blank_cells inked_cells) cells answer

-- The cells are those that the marks stand for. A refused line is refused as reading it is.
abbrev pub Inspected : List ℕ → Result Inspection LineRefusal → Type 0
Inspected marks (Ok i) = CellsRead marks i.cells (Ok tt) × InspectedCells i.cells i
Inspected marks (Err refusal) = CellsRead marks (blank_cells inked_cells) (Err refusal)
