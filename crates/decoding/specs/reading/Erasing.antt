-- The cells with those blank whose locator is a root of a polynomial.
use Rattle.std.specs.Prelude.{ℕ, Bool, cond, List, map, length, ◌==◌, slice_index, slice_index_or}
use Rattle.std.specs.List.{range_with_len}
use Rattle.algebra.specs.Meaning.{Arithmetic}
use Rattle.algebra.specs.Polynomial.{evaluate}
use Rattle.codes.specs.Cells.{blank_cell}
use Rattle.codes.specs.declared.cell.Cell.{Cell}

-- whether x is a root of f
abbrev pub root : Arithmetic → List ℕ → ℕ → Bool
root A f x = evaluate A f x == 0

abbrev pub erased_cell : Arithmetic → List ℕ → List ℕ → List Cell → ℕ → Cell
erased_cell A f locators cells j =
    cond (root A f (slice_index locators j)) blank_cell (slice_index_or cells j blank_cell)

unfoldable pub erased : Arithmetic → List ℕ → List ℕ → List Cell → List Cell
erased A f locators cells = map (erased_cell A f locators cells) (range_with_len 0 (length cells))
