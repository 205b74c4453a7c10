-- A body of cells has those cells only, and is not refused.
use Rattle.std.proofs.Common.{◌≡◌, ℕ, ◌<◌, ◌≤◌, List, [], ◌∷◌, map, length, get_or, Some, None, Ok, Err, Option, sym, refl, ap, ◌∙◌, subst, ap₂, add-one, arith}
use Rattle.std.proofs.lemmas.List.{length-map, get_or-map}
use Rattle.codes.specs.Cells.{blank_cell}
use Rattle.codes.specs.Standings.{Lettered, BelowIfNoted}
use Rattle.codes.specs.declared.cell.Cell.{Cell}
use Rattle.tray_file.specs.declared.fault.body_fault.BodyFault.{BodyFault}
use Rattle.tray_file.specs.declared.fault.body_fault.BodyFault.TheVariants.{BadNumber, BadBody, BadNote, Field, Card, Tag}
use Rattle.tray_file.specs.declared.fault.tag_cause.TagCause.TheVariants.{NoLetter}
use Rattle.tray_file.specs.body.WholeLists.{Are}
use Rattle.tray_file.specs.body.CellBodies.{letter_number, cell_number, cell_of_number, cells_of, UpTo, CellsIn, CellsRefused}
use Rattle.tray_file.specs.declared.body.cells_refusal.CellsRefusal.TheVariants.{WrongLength, Body}
use Rattle.tray_file.specs.body.OneReading.{CellsReadBack}
use Rattle.tray_file.proofs.body_lemmas.SameNumbers.{are_begins, same_list, list_never}

letter_of_number : (letter : Option ℕ) → cell_of_number (letter_number letter) ≡ record { letter = letter }
letter_of_number None = refl
letter_of_number (Some letter) = ap cell_of_number (add-one letter)

pub cells_of_numbers : (cells : List Cell) → cells_of (map cell_number cells) ≡ cells
cells_of_numbers [] = refl
cells_of_numbers (cell ∷ cells) = ap₂ (λ (x : Cell) (l : List Cell). x ∷ l) (letter_of_number cell.letter) (cells_of_numbers cells)

letter_up_to : (letters : ℕ) (letter : Option ℕ) → BelowIfNoted letters letter → letter_number letter ≤ letters
letter_up_to letters None below = omega arith
letter_up_to letters (Some letter) below = omega arith

up_to_cells : (letters : ℕ) (cells : List Cell) → Lettered letters cells → UpTo letters (map cell_number cells)
up_to_cells letters cells lettered j h =
    let within : j < length cells = omega (arith, length-map cells cell_number) in
    subst (λ n. n ≤ letters) (sym (get_or-map cell_number cells j blank_cell 0 within)) (letter_up_to letters (get_or cells j blank_cell).letter (lettered j within))

module _ (n letters : ℕ) (body : List ℕ) (cells : List Cell) (is : CellsIn n letters body cells) where
  abbrev vs : List ℕ
  vs = map cell_number cells

  are : Are vs body
  are = record { small = is.small; bytes_are = is.written }

  count : length vs ≡ n
  count = length-map cells cell_number ∙ is.count

  pub cells_never : (fault : BodyFault) → CellsRefused n letters body fault → ⊥
  cells_never (BadNumber place) refused = list_never 0 n vs body (BadNumber place) are count refused.1
  cells_never BadBody refused = list_never 0 n vs body BadBody are count refused.1
  cells_never (Tag NoLetter) (number, bad) =
      let same = same_list vs bad.values body (are_begins vs body are) (are_begins bad.values body bad.are) (count ∙ sym bad.count) in
      bad.above (subst (UpTo letters) same (up_to_cells letters cells is.lettered))
  cells_never BadNote never = never
  cells_never (Field fault) never = never
  cells_never (Card cause) never = never

  pub same_cells : (other : List Cell) → CellsIn n letters body other → other ≡ cells
  same_cells other also =
      let ws = map cell_number other in
      let others : Are ws body = record { small = also.small; bytes_are = also.written } in
      let same = same_list ws vs body (are_begins ws body others) (are_begins vs body are) (length-map other cell_number ∙ also.count ∙ sym count) in
      sym (cells_of_numbers other) ∙ ap cells_of same ∙ cells_of_numbers cells

pub cells_read_back : CellsReadBack
cells_read_back code body cells before after (Ok done) is long read = (refl, same_cells (length code.locators) code.letters body cells is after read.1)
cells_read_back code body cells before after (Err WrongLength) is long refused = absurd (refused.1 long)
cells_read_back code body cells before after (Err (Body fault)) is long refused =
    absurd (cells_never (length code.locators) code.letters body cells is fault refused.2)
