-- What a body must be by the task that its record has.
use Rattle.std.specs.Prelude.{◌≡◌, List, ℕ, Ok, Err, Result}
use Rattle.codes.specs.declared.any_card.AnyCard.{AnyCard}
use Rattle.tray_file.specs.body.CardBodies.{CardIn, CardRead}
use Rattle.tray_file.specs.body.CellBodies.{CellsRefusedUnder}
use Rattle.tray_file.specs.body.Notes.{PlainNote}
use Rattle.tray_file.specs.declared.fault.body_fault.BodyFault.{BodyFault}
use Rattle.tray_file.specs.reader.Records.{NoteRefused}
use Rattle.tray_file.specs.declared.reader.turn.Task.{Task}
use Rattle.tray_file.specs.declared.reader.turn.Task.TheVariants.{Card, Cells, Note}
use Rattle.tray_file.specs.declared.reader.turn.Turn.{Turn}
use Rattle.tray_file.specs.declared.reader.turn.Turn.TheVariants.{After}
use Rattle.tray_file.specs.declared.reader.turn.Allowed.TheVariants.{EveryKind}

abbrev pub TaskRefused : Task → List ℕ → BodyFault → Type 0
TaskRefused Card body fault = CardRead body (Err fault)
TaskRefused (Cells card) body fault = CellsRefusedUnder card.now body fault
TaskRefused Note body fault = NoteRefused body fault

-- A card's body is read as the card that replaces the last one, or it is refused, which leaves the
-- turn.
abbrev pub NextCard : List ℕ → Turn → Turn → Result (Unit {0}) BodyFault → Type 0
NextCard body turn next (Ok done) =
    (card : AnyCard) × CardIn body card × (next ≡ After card EveryKind)
NextCard body turn next (Err fault) = CardRead body (Err fault) × (next ≡ turn)

-- A note's body is plain, or it is refused.
abbrev pub NoteChecked : List ℕ → Result (Unit {0}) BodyFault → Type 0
NoteChecked body (Ok done) = PlainNote body
NoteChecked body (Err fault) = NoteRefused body fault
