-- Codes and cells of worked examples.
use Rattle.std.specs.Prelude.{List, [], ◌∷◌}
use Rattle.codes.specs.Code.{Code}
use Rattle.codes.specs.Cells.{noted}
use Rattle.codes.specs.declared.cell.Cell.{Cell}

abbrev pub six_code : Code
six_code =
    record {
      letters = 7;
      rows = 4;
      locators = 0 ∷ 1 ∷ 2 ∷ 3 ∷ 4 ∷ 5 ∷ [];
      multipliers = 1 ∷ 1 ∷ 1 ∷ 1 ∷ 1 ∷ 1 ∷ [];
    }

abbrev pub six_cells : List Cell
six_cells = noted (1 ∷ 5 ∷ 3 ∷ 4 ∷ 0 ∷ 6 ∷ [])

abbrev pub book_code : Code
book_code =
    record {
      letters = 11;
      rows = 1;
      locators = 0 ∷ 1 ∷ 2 ∷ 3 ∷ 4 ∷ 5 ∷ 6 ∷ 7 ∷ 8 ∷ 9 ∷ [];
      multipliers = 10 ∷ 9 ∷ 8 ∷ 7 ∷ 6 ∷ 5 ∷ 4 ∷ 3 ∷ 2 ∷ 1 ∷ [];
    }

abbrev pub book_cells : List Cell
book_cells = noted (0 ∷ 3 ∷ 0 ∷ 6 ∷ 4 ∷ 0 ∷ 6 ∷ 1 ∷ 5 ∷ 2 ∷ [])
