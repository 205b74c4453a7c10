-- What a task's body makes of a record's turn.
use Rattle.std.proofs.Common.{◌≡◌, ℕ, List, true, false, Ok, Err, Result, sym, ap, subst}
use Rattle.std.proofs.lemmas.Bool.{false≢true}
use Rattle.std.proofs.lemmas.Option.{same_Some}
use Rattle.codes.specs.declared.any_card.AnyCard.{AnyCard}
use Rattle.codes.specs.declared.cell.Cell.{Cell}
use Rattle.tray_file.specs.body.CellBodies.{CellsUnder, CellsRefusedUnder, CellsListed}
use Rattle.tray_file.specs.declared.fault.body_fault.BodyFault.{BodyFault}
use Rattle.tray_file.specs.reader.Records.{Done, BodyRefused, KeptCells}
use Rattle.tray_file.specs.reader.Tasks.{TaskRefused, NextCard, NoteChecked}
use Rattle.tray_file.specs.reader.Turns.{is_in_turn, TaskFor, turn_after}
use Rattle.tray_file.specs.declared.reader.kind.Kind.{Kind}
use Rattle.tray_file.specs.declared.reader.kind.Kind.TheVariants as kinds
use Rattle.tray_file.specs.declared.reader.turn.Turn.{Turn}
use Rattle.tray_file.specs.declared.reader.turn.Turn.TheVariants.{Start, After}
use Rattle.tray_file.specs.declared.reader.turn.Allowed.TheVariants.{EveryKind, NoNote}
use Rattle.tray_file.specs.declared.reader.turn.Task.{Task}
use Rattle.tray_file.specs.declared.reader.turn.Task.TheVariants as task

never : (A : Type 0) → false ≡ true → A
never A e = absurd (false≢true e)

-- what a task has made of the turn and of the cells, before the turn is passed on, or why it is refused
abbrev pub TaskRead : Task → Turn → Turn → List ℕ → List Cell → List Cell → Result (Unit {0}) BodyFault → Type 0
TaskRead task.Card turn made body before after read = NextCard body turn made read × (after ≡ before)
TaskRead (task.Cells card) turn made body before after read = CellsListed card.now body before after read × (made ≡ turn)
TaskRead task.Note turn made body before after read = NoteChecked body read × (made ≡ turn) × (after ≡ before)

-- the same of what is equal to them
pub same_read : (turn : Turn) (body : List ℕ) (before : List Cell) (t u : Task) (made m : Turn) (after a : List Cell) (read r : Result (Unit {0}) BodyFault) →
    t ≡ u → made ≡ m → after ≡ a → read ≡ r → TaskRead u turn m body before a r → TaskRead t turn made body before after read
same_read turn body before t u made m after a read r e f g h is = rw (e, f, g, h) is

pub task_done : (kind : Kind) (turn made : Turn) (t : Task) (body : List ℕ) (before after : List Cell) (done : Unit {0}) → is_in_turn kind turn ≡ true → TaskFor kind turn t →
    TaskRead t turn made body before after (Ok done) → Done kind turn body (turn_after made kind) × KeptCells kind (turn_after made kind) body before after
task_done kinds.Card turn made task.Card body before after ok is fits done =
    ((done.0.0, done.0.1, ap (λ (t : Turn). turn_after t kinds.Card) done.0.2), done.1)
task_done kinds.Card turn made (task.Cells card) body before after ok is fits done = absurd fits
task_done kinds.Card turn made task.Note body before after ok is fits done = absurd fits
task_done kinds.Cells turn made task.Card body before after ok is fits done = absurd fits
task_done kinds.Cells turn made task.Note body before after ok is fits done = absurd fits
task_done kinds.Cells Start made (task.Cells card) body before after ok is fits done = never _ is
task_done kinds.Cells (After last allowed) made (task.Cells card) body before after ok is fits done =
    let under = subst (λ (c : AnyCard). CellsUnder c body after) (sym (same_Some last card.now fits)) done.0 in
    let next : turn_after made kinds.Cells ≡ After last EveryKind = ap (λ (t : Turn). turn_after t kinds.Cells) done.1 in
    (((after, under), next), subst (λ (t : Turn). KeptCells kinds.Cells t body before after) (sym next) under)
task_done kinds.Note turn made task.Card body before after ok is fits done = absurd fits
task_done kinds.Note turn made (task.Cells card) body before after ok is fits done = absurd fits
task_done kinds.Note Start made task.Note body before after ok is fits done = never _ is
task_done kinds.Note (After card EveryKind) made task.Note body before after ok is fits done =
    ((done.0, ap (λ (t : Turn). turn_after t kinds.Note) done.1), done.2)
task_done kinds.Note (After card NoNote) made task.Note body before after ok is fits done = never _ is

pub read_refused : (t : Task) (turn made : Turn) (body : List ℕ) (before after : List Cell) (fault : BodyFault) →
    TaskRead t turn made body before after (Err fault) → TaskRefused t body fault × (made ≡ turn) × (after ≡ before)
read_refused task.Card turn made body before after fault read = (read.0.0, read.0.1, read.1)
read_refused (task.Cells card) turn made body before after fault read = (read.0.0, read.1, read.0.1)
read_refused task.Note turn made body before after fault read = (read.0, read.1, read.2)

pub task_refused : (kind : Kind) (turn : Turn) (t : Task) (body : List ℕ) (fault : BodyFault) → is_in_turn kind turn ≡ true → TaskFor kind turn t →
    TaskRefused t body fault → BodyRefused kind turn body fault
task_refused kinds.Card turn task.Card body fault is fits refused = refused
task_refused kinds.Card turn (task.Cells card) body fault is fits refused = absurd fits
task_refused kinds.Card turn task.Note body fault is fits refused = absurd fits
task_refused kinds.Cells turn task.Card body fault is fits refused = absurd fits
task_refused kinds.Cells turn task.Note body fault is fits refused = absurd fits
task_refused kinds.Cells Start (task.Cells card) body fault is fits refused = never _ is
task_refused kinds.Cells (After last allowed) (task.Cells card) body fault is fits refused =
    subst (λ (c : AnyCard). CellsRefusedUnder c body fault) (sym (same_Some last card.now fits)) refused
task_refused kinds.Note turn task.Card body fault is fits refused = absurd fits
task_refused kinds.Note turn (task.Cells card) body fault is fits refused = absurd fits
task_refused kinds.Note Start task.Note body fault is fits refused = never _ is
task_refused kinds.Note (After card EveryKind) task.Note body fault is fits refused = refused
task_refused kinds.Note (After card NoNote) task.Note body fault is fits refused = never _ is
