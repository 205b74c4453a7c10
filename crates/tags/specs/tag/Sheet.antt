-- The sheet: the n cells of a tag, as the code and the calls' arguments alone make them.
use Rattle.std.specs.Prelude.{ℕ, ◌-◌, Bool, true, cond, ◌&&◌, List, [], ◌∷◌, map, length, replicate, is_some, Some, None, Ok, Err, Option, Result, ◌==◌, nat_le, nat_lt, slice_set}
use Rattle.std.specs.Option.{unwrap_or}
use Rattle.codes.specs.Code.{Code}
use Rattle.codes.specs.Cells.{blank_cell, noted_cell}
use Rattle.codes.specs.declared.cell.Cell.{Cell}
use Rattle.tags.specs.marks.Marks.{marked_letters}
use Rattle.tags.specs.marks.Lines.{marked_cell}

-- how many cells a tag of the code has: n
abbrev pub width : Code → ℕ
width code = length code.locators

-- the sheet of a fresh tag: every cell is blank
abbrev pub blank_sheet : Code → List Cell
blank_sheet code = replicate (width code) blank_cell

-- cells are numbered from 1 to n
abbrev pub is_cell : Code → ℕ → Bool
is_cell code cell = nat_le 1 cell && nat_le cell (width code)

-- the place of a cell among them, from 0 on
abbrev pub place_in : Code → ℕ → Option ℕ
place_in code cell = cond (is_cell code cell) (Some (cell - 1)) None

-- is each mark a blank or a letter below the alphabet size?
abbrev pub all_marked : ℕ → List ℕ → Bool
all_marked letters [] = true
all_marked letters (mark ∷ marks) = is_some (marked_cell letters mark) && all_marked letters marks

-- the cells that the marks stand for
abbrev pub marked_cells : ℕ → List ℕ → List Cell
marked_cells letters marks = map (λ mark. unwrap_or (marked_cell letters mark) blank_cell) marks

-- The number that a note, a wipe and a line are refused with, or nothing where they are accepted.
abbrev pub refusal_of_note : Code → ℕ → ℕ → Option ℕ
refusal_of_note code cell letter =
    cond (is_cell code cell) (cond (nat_lt letter code.letters) None (Some 22)) (Some 21)

abbrev pub refusal_of_wipe : Code → ℕ → Option ℕ
refusal_of_wipe code cell = cond (is_cell code cell) None (Some 21)

abbrev pub refusal_of_line : Code → List ℕ → Option ℕ
refusal_of_line code marks =
    cond (length marks == width code)
    (cond (nat_le code.letters marked_letters && all_marked code.letters marks) None (Some 28))
    (Some 25)

-- a refused call leaves the sheet
abbrev pub unless_refused : Option ℕ → List Cell → List Cell → List Cell
unless_refused None changed sheet = changed
unless_refused (Some number) changed sheet = sheet

-- The sheet after a note, which puts its letter into its cell, a wipe, which makes its cell blank,
-- and a line, which sets all cells.
abbrev pub after_note : Code → ℕ → ℕ → List Cell → List Cell
after_note code cell letter sheet =
    unless_refused (refusal_of_note code cell letter)
    (slice_set sheet (cell - 1) (noted_cell letter)) sheet

abbrev pub after_wipe : Code → ℕ → List Cell → List Cell
after_wipe code cell sheet =
    unless_refused (refusal_of_wipe code cell) (slice_set sheet (cell - 1) blank_cell) sheet

abbrev pub after_line : Code → List ℕ → List Cell → List Cell
after_line code marks sheet =
    unless_refused (refusal_of_line code marks) (marked_cells code.letters marks) sheet

-- the number in an answer that is a refusal
abbrev pub refused : {T E : Type 0} → (E → ℕ) → Result T E → Option ℕ
refused number (Ok value) = None
refused number (Err refusal) = Some (number refusal)
