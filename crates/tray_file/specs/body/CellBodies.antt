-- The bodies of cells records.
use Rattle.std.specs.Prelude.{◌≡◌, ℕ, zero, suc, ◌+◌, ◌<◌, ◌≤◌, List, map, length, Some, None, Ok, Err, Option, Result, ◌≢◌, slice_index}
use Rattle.codes.specs.AnyCards.{any_code}
use Rattle.codes.specs.Code.{Code}
use Rattle.codes.specs.Cells.{blank_cell, noted_cell}
use Rattle.codes.specs.Standings.{Lettered}
use Rattle.codes.specs.declared.any_card.AnyCard.{AnyCard}
use Rattle.codes.specs.declared.cell.Cell.{Cell}
use Rattle.tray_file.specs.fault.Layers.{body_fault_number}
use Rattle.tray_file.specs.body.CellRefusals.{cells_refusal_number}
use Rattle.tray_file.specs.body.NumberLists.{numbers, Small}
use Rattle.tray_file.specs.body.WholeLists.{ListRefused, Are}
use Rattle.tray_file.specs.declared.fault.body_fault.BodyFault.{BodyFault}
use Rattle.tray_file.specs.declared.fault.body_fault.BodyFault.TheVariants.{BadNumber, BadBody, BadNote, Field, Card, Tag}
use Rattle.tray_file.specs.declared.fault.tag_cause.TagCause.TheVariants.{NoLetter}
use Rattle.tray_file.specs.declared.body.cells_refusal.CellsRefusal.{CellsRefusal}
use Rattle.tray_file.specs.declared.body.cells_refusal.CellsRefusal.TheVariants.{WrongLength, Body}

-- the number of a cell: 0 for a blank, letter + 1 otherwise
abbrev pub letter_number : Option ℕ → ℕ
letter_number None = 0
letter_number (Some letter) = letter + 1

abbrev pub cell_number : Cell → ℕ
cell_number cell = letter_number cell.letter

-- the body of cells
abbrev pub cells_body : List Cell → List ℕ
cells_body cells = numbers (map cell_number cells)

-- the cell of a number
abbrev pub cell_of_number : ℕ → Cell
cell_of_number zero = blank_cell
cell_of_number (suc letter) = noted_cell letter

abbrev pub cells_of : List ℕ → List Cell
cells_of vs = map cell_of_number vs

-- every number stands for a blank or a letter
abbrev pub UpTo : ℕ → List ℕ → Type 0
UpTo letters vs = (j : ℕ) → j < length vs → slice_index vs j ≤ letters

-- n cells with letters below the alphabet size and no number too large, whose body this is, byte
-- for byte
pub record CellsIn (n letters : ℕ) (body : List ℕ) (cells : List Cell) : Type 0 where
  pub count : length cells ≡ n
  pub lettered : Lettered letters cells
  pub small : Small (map cell_number cells)
  pub written : body ≡ cells_body cells

-- n numbers and nothing else, not all of which stand for blanks and letters
pub record NoLetters (n letters : ℕ) (body : List ℕ) : Type 0 where
  pub values : List ℕ
  pub are : Are values body
  pub count : length values ≡ n
  pub above : UpTo letters values → ⊥

-- The first that applies: 32 or 35 where the body is not n numbers, or 22 where one of them stands
-- for no letter.
abbrev pub CellsRefused : ℕ → ℕ → List ℕ → BodyFault → Type 0
CellsRefused n letters body (BadNumber place) =
    (body_fault_number (BadNumber place) ≡ 32) × ListRefused 0 n body (BadNumber place)
CellsRefused n letters body BadBody =
    (body_fault_number BadBody ≡ 35) × ListRefused 0 n body BadBody
CellsRefused n letters body (Tag NoLetter) =
    (body_fault_number (Tag NoLetter) ≡ 22) × NoLetters n letters body
CellsRefused n letters body BadNote = ⊥
CellsRefused n letters body (Field fault) = ⊥
CellsRefused n letters body (Card cause) = ⊥

-- the same of the n and the letters of a card
abbrev pub CellsUnder : AnyCard → List ℕ → List Cell → Type 0
CellsUnder card body cells =
    CellsIn (length (any_code card).locators) (any_code card).letters body cells

abbrev pub CellsRefusedUnder : AnyCard → List ℕ → BodyFault → Type 0
CellsRefusedUnder card body fault =
    CellsRefused (length (any_code card).locators) (any_code card).letters body fault

abbrev pub CellNumbersRead : ℕ → ℕ → List ℕ → Result (List ℕ) BodyFault → Type 0
CellNumbersRead n letters body (Ok list) = Are list body × UpTo letters list × (length list ≡ n)
CellNumbersRead n letters body (Err fault) = CellsRefused n letters body fault

-- The list holds the cells whose body this is under the card, or the body is refused and the list
-- is as it was.
abbrev pub CellsListed : AnyCard → List ℕ → List Cell → List Cell
    → Result (Unit {0}) BodyFault → Type 0
CellsListed card body before after (Ok done) = CellsUnder card body after
CellsListed card body before after (Err fault) =
    CellsRefusedUnder card body fault × (after ≡ before)

-- The buffer holds the cells whose body this is under the card. Else the buffer is as it was: 25
-- where its length is wrong, or the number of the body's fault.
abbrev pub CellsReadInto : Code → List ℕ → List Cell → List Cell
    → Result (Unit {0}) CellsRefusal → Type 0
CellsReadInto code body before after (Ok done) =
    (length before ≡ length code.locators) × CellsIn (length code.locators) code.letters body after
CellsReadInto code body before after (Err WrongLength) =
    (cells_refusal_number WrongLength ≡ 25)
    × (length before ≢ length code.locators) × (after ≡ before)
CellsReadInto code body before after (Err (Body fault)) =
    (cells_refusal_number (Body fault) ≡ body_fault_number fault)
    × (length before ≡ length code.locators)
    × CellsRefused (length code.locators) code.letters body fault × (after ≡ before)
