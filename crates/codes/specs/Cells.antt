-- Blank and noted cells.
use Rattle.std.specs.Prelude.{ℕ, ◌+◌, List, [], ◌∷◌, map, Some, None, Option}
use Rattle.codes.specs.declared.cell.Cell.{Cell}

abbrev pub blank_cell : Cell
blank_cell = record { letter = None }

abbrev pub noted_cell : ℕ → Cell
noted_cell letter = record { letter = Some letter }

abbrev pub one_if_blank : Option ℕ → ℕ
one_if_blank None = 1
one_if_blank (Some letter) = 0

-- how many cells are blank
abbrev pub blanks : List Cell → ℕ
blanks [] = 0
blanks (cell ∷ cells) = one_if_blank cell.letter + blanks cells

-- the cells in which a word is noted, letter by letter
abbrev pub noted : List ℕ → List Cell
noted word = map noted_cell word
