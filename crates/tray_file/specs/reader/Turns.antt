-- What is in turn.
use Rattle.std.specs.Prelude.{◌≡◌, Bool, true, false, Some, None, Option}
use Rattle.std.specs.Borrow.{Bor}
use Rattle.codes.specs.declared.any_card.AnyCard.{AnyCard}
use Rattle.tray_file.specs.declared.reader.kind.Kind.{Kind}
use Rattle.tray_file.specs.declared.reader.kind.Kind.TheVariants as kind
use Rattle.tray_file.specs.declared.reader.turn.Turn.{Turn}
use Rattle.tray_file.specs.declared.reader.turn.Turn.TheVariants.{Start, After}
use Rattle.tray_file.specs.declared.reader.turn.Allowed.TheVariants.{EveryKind, NoNote}
use Rattle.tray_file.specs.declared.reader.turn.Task.{Task}
use Rattle.tray_file.specs.declared.reader.turn.Task.TheVariants as task

-- At the start only a card is in turn; after a card or cells every kind is; after a note, a second
-- note is not.
abbrev pub is_in_turn : Kind → Turn → Bool
is_in_turn kind.Card turn = true
is_in_turn kind.Cells Start = false
is_in_turn kind.Cells (After card allowed) = true
is_in_turn kind.Note Start = false
is_in_turn kind.Note (After card EveryKind) = true
is_in_turn kind.Note (After card NoNote) = false

-- the last card that was read
abbrev pub last_card : Turn → Option AnyCard
last_card Start = None
last_card (After card allowed) = Some card

abbrev pub lent_card : Option (Bor AnyCard) → Option AnyCard
lent_card None = None
lent_card (Some card) = Some card.now

-- what a record of the kind must be: a card, cells under the last card, or a note
abbrev pub TaskFor : Kind → Turn → Task → Type 0
TaskFor kind.Card turn task.Card = Unit {0}
TaskFor kind.Cells turn (task.Cells card) = last_card turn ≡ Some card.now
TaskFor kind.Note turn task.Note = Unit {0}
TaskFor kind.Card turn (task.Cells card) = ⊥
TaskFor kind.Card turn task.Note = ⊥
TaskFor kind.Cells turn task.Card = ⊥
TaskFor kind.Cells turn task.Note = ⊥
TaskFor kind.Note turn task.Card = ⊥
TaskFor kind.Note turn (task.Cells card) = ⊥

abbrev pub TaskOf : Turn → Kind → Option Task → Type 0
TaskOf turn kind None = is_in_turn kind turn ≡ false
TaskOf turn kind (Some task) = (is_in_turn kind turn ≡ true) × TaskFor kind turn task

-- what is in turn after a record of the kind more, under the same card
abbrev pub turn_after : Turn → Kind → Turn
turn_after Start kind = Start
turn_after (After card allowed) kind.Card = After card EveryKind
turn_after (After card allowed) kind.Cells = After card EveryKind
turn_after (After card allowed) kind.Note = After card NoNote
