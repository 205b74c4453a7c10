use Rattle.std.proofs.Common.{◌≡◌, ◌∙◌, ℕ, true, Some, Option, Ok, Err, Result, ap, subst, inl, inr}
use Rattle.std.proofs.lemmas.Result.{err_from_is_err_and}
use Rattle.std.specs.Result.{MatchResult}
use Rattle.tray_file.specs.reader.RecordKinds.{kind_number, KindNamed}
use Rattle.tray_file.specs.declared.fault.Fault.{Fault}
use Rattle.tray_file.specs.reader.Turns.{is_in_turn, TaskFor, TaskOf}
use Rattle.tray_file.specs.declared.reader.turn.Turn.{Turn}
use Rattle.tray_file.specs.declared.reader.turn.Task.{Task}
use Rattle.tray_file.specs.declared.reader.kind.Kind.{Kind}
use Rattle.tray_file.specs.declared.reader.kind.NoSuchKind.{NoSuchKind}
use Rattle.tray_file.proofs.reader_lemmas.HeaderPlaces.{number_ends, no_length, no_body}
use Rattle.tray_file.proofs.reader.header.read_header.Goals as goal

same_kind : (x y : Kind) → ◌≡◌ {A = Result Kind Fault} (Ok x) (Ok y) → y ≡ x
same_kind x y same = cc

-- the kind that was named
named : (value : ℕ) (kind : Kind) (Other : NoSuchKind → Type 0) (r : Result Kind NoSuchKind) → KindNamed value r → ((e : NoSuchKind) → Other e → ⊥) →
    MatchResult r (λ x. ◌≡◌ {A = Result Kind Fault} (Ok kind) (Ok x)) Other → value ≡ kind_number kind
named value kind Other (Ok x) is never cases = is ∙ ap kind_number (same_kind kind x cases)
named value kind Other (Err e) is never cases = absurd (never e cases)

-- the kind that has a task is in turn
in_turn : (turn : Turn) (kind : Kind) (task : Task) (o : Option Task) → TaskOf turn kind o → o ≡ Some task → (is_in_turn kind turn ≡ true) × TaskFor kind turn task
in_turn turn kind task o of is = subst (TaskOf turn kind) is of

pub returns-in_err-length : goal.returns-in_err-length
returns-in_err-length c =
    let first = c.in_ok-kind_read.ensures in
    let stop = c.in_err-length.ensures in
    let p = err_from_is_err_and c.from_residual-in_err-length.result c.from_residual-in_err-length.ensures.1 in
    let refused = no_length c.args.turn.now c.args.place c.args.file.now c.in_ok-kind.kind c.in_ok-kind_read.kind_read.value
    c.in_ok-kind_read.kind_read.end first.0 first.1 (named _ c.in_ok-kind.kind _ c.try_from.result c.try_from.ensures (λ e never. never) c.in_ok-kind.ensures.cases) (in_turn c.args.turn.now c.in_ok-kind.kind c.in_ok-task.task c.task_of.result c.task_of.ensures c.in_ok-task.ensures.ok_part).0 stop.0 _ stop.1 stop.2 in
    rw (p.1, p.2) (inr (inr (inr (inl refused))))

pub overflow_sub-file : goal.overflow_sub-file
overflow_sub-file c =
    let sized = c.in_ok-length.ensures in
    (number_ends _ c.args.file.now c.in_ok-kind_read.kind_read.end c.in_ok-length.length.end sized.0 sized.1).0

pub returns-then-file-body : goal.returns-then-file-body
returns-then-file-body c =
    let first = c.in_ok-kind_read.ensures in
    let sized = c.in_ok-length.ensures in
    inr (inr (inr (inr (no_body c.args.turn.now c.args.place c.args.file.now c.in_ok-kind.kind c.in_ok-kind_read.kind_read.value
    c.in_ok-kind_read.kind_read.end first.0 first.1 (named _ c.in_ok-kind.kind _ c.try_from.result c.try_from.ensures (λ e never. never) c.in_ok-kind.ensures.cases) (in_turn c.args.turn.now c.in_ok-kind.kind c.in_ok-task.task c.task_of.result c.task_of.ensures c.in_ok-task.ensures.ok_part).0
    c.in_ok-length.length.value c.in_ok-length.length.end sized.0 sized.1 _ c.if-file-body.true c.file_fault.ensures))))
