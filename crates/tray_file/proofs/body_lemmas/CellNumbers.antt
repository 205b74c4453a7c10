-- Cells and their numbers.
use Rattle.std.proofs.Common.{◌≡◌, ℕ, zero, suc, ◌<◌, ◌≤◌, List, [], ◌∷◌, map, length, get_or, sym, refl, ap, ◌∙◌, subst, ap₂, add-one, arith}
use Rattle.std.proofs.lemmas.List.{length-map, get_or-map}
use Rattle.codes.specs.Cells.{blank_cell}
use Rattle.codes.specs.Standings.{Lettered, BelowIfNoted}
use Rattle.codes.specs.declared.cell.Cell.{Cell}
use Rattle.tray_file.specs.body.NumberLists.{numbers, Small}
use Rattle.tray_file.specs.body.WholeLists.{Are}
use Rattle.tray_file.specs.body.CellBodies.{cell_number, cell_of_number, cells_of, UpTo, CellsIn}

pub number_of_cell_of : (v : ℕ) → cell_number (cell_of_number v) ≡ v
number_of_cell_of zero = refl
number_of_cell_of (suc letter) = add-one letter

pub numbers_of_cells_of : (vs : List ℕ) → map cell_number (cells_of vs) ≡ vs
numbers_of_cells_of [] = refl
numbers_of_cells_of (v ∷ vs) = ap₂ (λ x (l : List ℕ). x ∷ l) (number_of_cell_of v) (numbers_of_cells_of vs)

letter_below : (letters v : ℕ) → v ≤ letters → BelowIfNoted letters (cell_of_number v).letter
letter_below letters zero h = tt
letter_below letters (suc letter) h = omega arith

pub lettered_cells_of : (letters : ℕ) (vs : List ℕ) → UpTo letters vs → Lettered letters (cells_of vs)
lettered_cells_of letters vs up j h =
    let within : j < length vs = omega (arith, length-map vs cell_of_number) in
    subst (λ (cell : Cell). BelowIfNoted letters cell.letter) (sym (get_or-map cell_of_number vs j 0 blank_cell within)) (letter_below letters (get_or vs j 0) (up j within))

-- the cells of a body
pub cells_in : (n letters : ℕ) (vs body : List ℕ) → Are vs body → length vs ≡ n → UpTo letters vs → CellsIn n letters body (cells_of vs)
cells_in n letters vs body are count up = record {
  count = length-map vs cell_of_number ∙ count;
  lettered = lettered_cells_of letters vs up;
  small = subst Small (sym (numbers_of_cells_of vs)) are.small;
  written = are.bytes_are ∙ ap numbers (sym (numbers_of_cells_of vs));
}

-- the same cells, by equal names
pub cells_renamed : {n m letters size : ℕ} {body : List ℕ} {found cells : List Cell} → CellsIn n letters body found → n ≡ m → letters ≡ size → cells ≡ found →
    CellsIn m size body cells
cells_renamed {n} {m} {letters} {size} {body} {found} {cells} is same_count same-letters same_cells =
    subst (λ (l : List Cell). CellsIn m size body l) (sym same_cells)
    (subst (λ k. CellsIn k size body found) same_count (subst (λ k. CellsIn n k body found) same-letters is))
