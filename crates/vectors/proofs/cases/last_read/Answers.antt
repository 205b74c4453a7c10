use Rattle.std.proofs.Common.{◌≡◌, ◌-◌, Ok, Some, length, sym, ap, ◌∙◌}
use Rattle.std.specs.List.{slice_get}
use Rattle.tags.specs.declared.runs.event.Event.TheVariants.{Read}
use Rattle.vectors.proofs.Journals.{ends}
use Rattle.vectors.proofs.cases.last_read.Goals as goal

pub returns-in_ok-format-in-Ok : goal.returns-in_ok-format-in-Ok
returns-in_ok-format-in-Ok c =
    let read = c.in-Some-Read in
    let journal = c.args.journal.now in
    let last : slice_get journal (length journal - 1) ≡ Some (Read (Ok c.in-Ok.counts) read.shown) =
    sym c.last.ensures.value ∙ sym read.ensures ∙ ap Some (read.field-0-is ∙ ap (λ a. Read a read.shown) c.in-Ok.is) in
    (_, _, _, ends journal _ last, c.in_ok-format-in-Ok.ensures.ok)
