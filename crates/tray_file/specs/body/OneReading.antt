-- That a body has one reading.
use Rattle.std.specs.Prelude.{◌≡◌, ℕ, List, length, Ok, Result}
use Rattle.codes.specs.Code.{Code}
use Rattle.codes.specs.declared.cell.Cell.{Cell}
use Rattle.codes.specs.declared.any_card.AnyCard.{AnyCard}
use Rattle.tray_file.specs.body.CardBodies.{CardIn, CardRead}
use Rattle.tray_file.specs.body.CellBodies.{CellsIn, CellsReadInto}
use Rattle.tray_file.specs.declared.fault.body_fault.BodyFault.{BodyFault}
use Rattle.tray_file.specs.declared.body.cells_refusal.CellsRefusal.{CellsRefusal}

-- What is read from a card's body is that very card.
abbrev pub CardReadsBack : Type 0
CardReadsBack =
    (body : List ℕ) (card : AnyCard) (r : Result AnyCard BodyFault) → CardIn body card
    → CardRead body r → r ≡ Ok card

-- A body has one answer as a card: one card, or one fault.
abbrev pub OneCardAnswer : Type 0
OneCardAnswer =
    (body : List ℕ) (a b : Result AnyCard BodyFault) → CardRead body a → CardRead body b → a ≡ b

-- What is read from the body of cells, into a buffer that is long enough, is those cells.
abbrev pub CellsReadBack : Type 0
CellsReadBack =
    (code : Code) (body : List ℕ) (cells before after : List Cell)
    (r : Result (Unit {0}) CellsRefusal) → CellsIn (length code.locators) code.letters body cells
    → length before ≡ length code.locators → CellsReadInto code body before after r
    → (r ≡ Ok tt) × (after ≡ cells)

-- Under a code a body has one answer as cells, and leaves a buffer in one way.
abbrev pub OneCellsAnswer : Type 0
OneCellsAnswer =
    (code : Code) (body : List ℕ) (before after other : List Cell)
    (a b : Result (Unit {0}) CellsRefusal) → CellsReadInto code body before after a
    → CellsReadInto code body before other b → (a ≡ b) × (after ≡ other)
