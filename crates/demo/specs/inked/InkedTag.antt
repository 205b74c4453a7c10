-- The inked card: its code, its field, and its sizes.
use Rattle.std.specs.Prelude.{ℕ, ◌-◌, List, replicate}
use Rattle.algebra.specs.Meaning.{Arithmetic, Meaning, with_inverses}
use Rattle.fields.specs.Modulo.{modulo}
use Rattle.codes.specs.Code.{Code}
use Rattle.codes.specs.Cells.{blank_cell}
use Rattle.codes.specs.declared.cell.Cell.{Cell}
use Rattle.codes.specs.house.HouseRows.{inked, row_code}

abbrev pub inked_code : Code
inked_code = row_code inked

abbrev pub inked_arithmetic : Arithmetic
inked_arithmetic = modulo inked.origin

abbrev pub inked_meaning : Meaning
inked_meaning = with_inverses inked_arithmetic

abbrev pub inked_letters : ℕ
inked_letters = inked.letters

abbrev pub inked_cells : ℕ
inked_cells = inked.cells

-- how many data letters there are: the cells without one for each row
abbrev pub inked_data : ℕ
inked_data = inked.cells - inked.rows

abbrev pub blank_cells : ℕ → List Cell
blank_cells n = replicate n blank_cell
