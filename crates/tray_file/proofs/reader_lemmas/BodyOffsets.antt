-- A bad number of a body begins within the body.
use Rattle.std.proofs.Common.{◌≡◌, ℕ, ◌+◌, ◌≤◌, List, length, sym, ap, ◌∙◌, ⊎_elim, arith}
use Rattle.std.proofs.lemmas.List.{length-append}
use Rattle.tray_file.specs.body.NumberLists.{numbers, after, Begins}
use Rattle.tray_file.specs.body.CardHeads.{head_numbers}
use Rattle.tray_file.specs.declared.fault.body_fault.BodyFault.TheVariants.{BadNumber}
use Rattle.tray_file.specs.reader.Tasks.{TaskRefused}
use Rattle.tray_file.specs.declared.reader.turn.Task.{Task}
use Rattle.tray_file.specs.declared.reader.turn.Task.TheVariants as task

begun : (vs bytes : List ℕ) → Begins vs bytes → length (numbers vs) + length (after vs bytes) ≡ length bytes
begun vs bytes begins = sym (ap length begins.front ∙ length-append (numbers vs) (after vs bytes))

pub offset_within : (t : Task) (body : List ℕ) (offset : ℕ) → TaskRefused t body (BadNumber offset) → offset ≤ length body
offset_within task.Card body offset refused =
    ⊎_elim (λ h. let stop = h.1 in omega (arith, stop.1, begun stop.0.values body stop.0.begins))
    (λ r.
    let head = head_numbers r.head in
    let stop = r.refused.2 in
    omega (arith, stop.1, begun head body r.begins, begun stop.0.values (after head body) stop.0.begins))
    refused
offset_within (task.Cells card) body offset (number, (stop, place)) = omega (arith, place, begun stop.values body stop.begins)
offset_within task.Note body offset (number, plain, other) = let never : ◌≡◌ {A = ℕ} 0 1 = cc in absurd (omega arith)
