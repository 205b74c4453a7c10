use Rattle.std.proofs.Common.{◌≡◌, ℕ, List, [], ◌∷◌, ◌++◌, length, flat_map, append-nil, sym, ap, ◌∙◌, arith}
use Rattle.std.specs.List.{range_with_len}
use Rattle.codes.specs.declared.cell.Cell.{Cell}
use Rattle.tags.specs.declared.runs.call.Call.{Call}
use Rattle.tags.specs.declared.runs.call.Call.TheVariants.{Read}
use Rattle.vectors.specs.ReadAnswers.{note_of, note_at, notes_and_read}
use Rattle.vectors.proofs.Texts.{piece_more}
use Rattle.vectors.proofs.cases.note_calls.Goals as goal
use Rattle.vectors.proofs.cases.note_calls.Goals.{in-Some+in_ok-push, in_default}

pub loop-j-init : goal.loop-j-init
loop-j-init c = c.new-calls.ensures.items

pub loop-j-preserved : goal.loop-j-preserved
loop-j-preserved c =
    let cells = c.deref-cell-items.result.now in
    let j = c.loop-j.j in
    piece_more (note_at cells) [] c.loop-j.calls.items c.match-cell.calls.items j c.loop-j.invariant
    (elim c.match-cell.branch [
      | in-Some+in_ok-push w ↦
          ap (λ v. v.items) w.calls-is ∙ w.in_ok-push.ensures.items ∙ ap (λ o. c.loop-j.calls.items ++ note_of j o) (sym w.in-Some.is)
      | in_default w ↦ ap (λ v. v.items) w.calls-is ∙ sym (append-nil c.loop-j.calls.items) ∙ ap (λ o. c.loop-j.calls.items ++ note_of j o) (sym w.in_default.is)
    ])

pub returns : goal.returns
returns c =
    let cells = c.deref-cell-items.result.now in
    let size = c.args.length in
    let last : c.loop-j.j ≡ length cells = omega (arith, c.loop-j-test.false, c.loop-j.auto.j-end) in
    c.in_ok-push-2.ensures.items ∙ ap (λ (calls : List Call). calls ++ Read size ∷ []) c.loop-j.invariant
    ∙ ap (λ (n : ℕ). flat_map (note_at cells) (range_with_len 0 n) ++ Read size ∷ []) last
    ∙ ap (λ (cells : List Cell). notes_and_read cells size) (c.deref-cell-items.ensures.value ∙ c.in_ok-cells.ensures)
