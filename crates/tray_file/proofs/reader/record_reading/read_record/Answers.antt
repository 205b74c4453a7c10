use Rattle.std.proofs.Common.{◌≡◌, ℕ, ◌+◌, ◌^◌, ◌<◌, List, length, Ok, sym, ap, refl, subst, inr, arith}
use Rattle.std.specs.List.{between}
use Rattle.tray_file.specs.declared.fault.body_fault.BodyFault.{BodyFault}
use Rattle.tray_file.specs.declared.fault.body_fault.BodyFault.TheVariants.{BadNumber, BadBody, BadNote, Field, Card, Tag}
use Rattle.tray_file.specs.fault.Faults.{BodyPlaceFits}
use Rattle.tray_file.specs.reader.Records.{StepIn}
use Rattle.tray_file.specs.reader.Tasks.{TaskRefused}
use Rattle.tray_file.specs.declared.reader.turn.Turn.{Turn}
use Rattle.tray_file.specs.declared.reader.turn.Task.{Task}
use Rattle.tray_file.specs.declared.reader.turn.Task.TheVariants as task
use Rattle.tray_file.proofs.reader_lemmas.BodyOffsets.{offset_within}
use Rattle.tray_file.proofs.reader_lemmas.RecordPlaces.{within, body_long, step_in, body_wrong}
use Rattle.tray_file.proofs.reader_lemmas.TaskTurns.{TaskRead, same_read, task_done, read_refused, task_refused}
use Rattle.tray_file.proofs.reader.record_reading.read_record.Goals as goal
use Rattle.tray_file.proofs.reader.record_reading.read_record.Goals.{In-Err, in-Card, in-Cells, in-Note}

pub part-body-requires-clause-within : goal.part-body-requires-clause-within
part-body-requires-clause-within c = within _ _ _ _ c.in_ok-header.ensures

fits : (task : Task) (body : List ℕ) (start : ℕ) (fault : BodyFault) → TaskRefused task body fault → start + length body < 2 ^ 64 → BodyPlaceFits start fault
fits task body start (BadNumber offset) refused room = omega (arith, offset_within task body offset refused)
fits task body start BadBody refused room = tt
fits task body start BadNote refused room = tt
fits task body start (Field cause) refused room = tt
fits task body start (Card cause) refused room = tt
fits task body start (Tag cause) refused room = tt

-- why the body is refused, whatever its task
refused : (c : In-Err) → TaskRefused c.in_ok-header.header.task c.part-body.result.now c.in-Err.fault × (c.match-header.turn ≡ c.args.turn.now) × (c.match-header.cells.items ≡ c.args.cells.now.items)
refused c =
    let header = c.in_ok-header.header in
    let read : TaskRead header.task c.args.turn.now c.match-header.turn c.part-body.result.now c.args.cells.now.items c.match-header.cells.items c.match-header.read =
    elim c.match-header.branch [
      | in-Card w ↦
          same_read _ _ _ _ task.Card _ _ _ _ _ _ w.in-Card.is w.turn-is (ap (λ v. v.items) w.cells-is) w.read-is (w.read_next_card-read.ensures, refl)
      | in-Cells w ↦
          same_read _ _ _ _ (task.Cells w.in-Cells.card) _ _ _ _ _ _ w.in-Cells.is w.turn-is (ap (λ v. v.items) w.cells-is) w.read-is (w.list_cells-read.ensures, refl)
      | in-Note w ↦
          same_read _ _ _ _ task.Note _ _ _ _ _ _ w.in-Note.is w.turn-is (ap (λ v. v.items) w.cells-is) w.read-is (w.check_note-read.ensures, refl, refl)
    ] in
    read_refused header.task _ _ _ _ _ _ (subst (TaskRead header.task c.args.turn.now c.match-header.turn c.part-body.result.now c.args.cells.now.items c.match-header.cells.items) c.in-Err.is read)

pub placed_body-requires : goal.placed_body-requires
placed_body-requires c =
    let h = c.in_ok-header.ensures in
    let header = c.in_ok-header.header in
    fits header.task c.part-body.result.now header.body c.in-Err.fault (refused (goal.at.placed_body-requires c).In-Err).0
    (omega (arith, within _ _ _ _ h, body_long _ _ _ _ h, h.end_place, ap length c.part-body.ensures.bytes))

pub returns-in-Ok : goal.returns-in-Ok
returns-in-Ok c =
    let h = c.in_ok-header.ensures in
    let header = c.in_ok-header.header in
    let read : TaskRead header.task c.args.turn.now c.match-header.turn c.part-body.result.now c.args.cells.now.items c.match-header.cells.items c.match-header.read =
    elim c.match-header.branch [
      | in-Card w ↦
          same_read _ _ _ _ task.Card _ _ _ _ _ _ w.in-Card.is w.turn-is (ap (λ v. v.items) w.cells-is) w.read-is (w.read_next_card-read.ensures, refl)
      | in-Cells w ↦
          same_read _ _ _ _ (task.Cells w.in-Cells.card) _ _ _ _ _ _ w.in-Cells.is w.turn-is (ap (λ v. v.items) w.cells-is) w.read-is (w.list_cells-read.ensures, refl)
      | in-Note w ↦
          same_read _ _ _ _ task.Note _ _ _ _ _ _ w.in-Note.is w.turn-is (ap (λ v. v.items) w.cells-is) w.read-is (w.check_note-read.ensures, refl, refl)
    ] in
    let body = between header.body header.end c.args.file.now in
    let done = subst (λ (l : List ℕ). TaskRead header.task c.args.turn.now c.match-header.turn l c.args.cells.now.items c.match-header.cells.items (Ok c.in-Ok.field-0)) c.part-body.ensures.bytes
    (subst (TaskRead header.task c.args.turn.now c.match-header.turn c.part-body.result.now c.args.cells.now.items c.match-header.cells.items) c.in-Ok.is read) in
    let made = task_done header.kind c.args.turn.now c.match-header.turn header.task body _ _ c.in-Ok.field-0 h.first.in_turn h.task done in
    subst (λ (t : Turn). StepIn c.args.turn.now t c.args.place c.args.file.now c.args.cells.now.items c.match-header.cells.items (record { kind = header.kind; body = header.body; end = header.end })) (sym c.pass.ensures)
    (step_in _ _ _ _ h _ _ _ made.0 made.1)

pub returns-in-Err : goal.returns-in-Err
returns-in-Err c =
    let h = c.in_ok-header.ensures in
    let header = c.in_ok-header.header in
    let stop = refused (goal.at.returns-in-Err c).In-Err in
    let cause = subst (λ (l : List ℕ). TaskRefused header.task l c.in-Err.fault) c.part-body.ensures.bytes stop.0 in (
      inr (body_wrong _ _ _ _ h c.in-Err.fault _ (task_refused header.kind c.args.turn.now header.task _ _ h.first.in_turn h.task cause) c.placed_body.ensures),
      stop.1,
      stop.2,
    )
