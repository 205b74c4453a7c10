-- The marks that stand for letters and blanks.
use Rattle.std.specs.Prelude.{ℕ, ◌+◌, ◌-◌, cond, ◌&&◌, Some, None, Option, ◌==◌, nat_le}
use Rattle.codes.specs.declared.cell.Cell.{Cell}
use Rattle.codes.specs.Cells.{blank_cell, noted_cell}

-- how many letters have a mark
abbrev pub marked_letters : ℕ
marked_letters = 37

-- '0' to '9' are 0 to 9, 'A' to 'Z' are 10 to 35, '-' is 36, '?' is a blank, and any other mark is
-- strange
unfoldable pub cell_of_mark : ℕ → Option Cell
cell_of_mark c =
    cond (nat_le 48 c && nat_le c 57) (Some (noted_cell (c - 48)))
    (cond (nat_le 65 c && nat_le c 90) (Some (noted_cell (c - 65 + 10)))
    (cond (c == 45) (Some (noted_cell 36)) (cond (c == 63) (Some blank_cell) None)))
