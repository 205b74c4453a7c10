use Rattle.std.proofs.Common.{ℕ, List, Some, Ok, Result, sym, ap, ◌∙◌, subst}
use Rattle.codes.specs.declared.cell.Cell.{Cell}
use Rattle.tray_file.specs.reader.Readers.{Next}
use Rattle.tray_file.specs.reader.Turns.{lent_card}
use Rattle.tray_file.specs.declared.fault.Fault.{Fault}
use Rattle.tray_file.specs.declared.reader.record.Record.{Record}
use Rattle.tray_file.specs.declared.reader.record.Record.TheVariants.{Cells}
use Rattle.tray_report.specs.FileLines.{CellsTold}
use Rattle.tray_report.proofs.Turns.{answered_as, counts_fit, counts_within}
use Rattle.tray_report.proofs.file_lines.FileLines.step.Goals as goal

pub counted-self-requires : goal.counted-self-requires
counted-self-requires c =
    let step = subst (λ (a : Result Record Fault). Next c.args.self.now.reader (Some a) c.next.new.self) c.in-Ok.is c.in-Some.ensures.step in
    counts_fit c.args.self.now c.next.new.self c.in-Ok.record step

pub invariant_of-self-in-Cells : goal.invariant_of-self-in-Cells
invariant_of-self-in-Cells c =
    let step = subst (λ (a : Result Record Fault). Next c.args.self.now.reader (Some a) c.next.new.self) c.in-Ok.is c.in-Some.ensures.step in
    record { few = counts_within c.args.self.now c.next.new.self c.in-Ok.record step c.tell_cells-step.result c.counted-self.result c.counted-self.ensures }

pub returns-in-Cells-clause-step : goal.returns-in-Cells-clause-step
returns-in-Cells-clause-step c =
    let next = answered_as _ _ _ _ _ c.in-Some.ensures.step c.in-Ok.is c.in-Cells.is in
    let last = sym c.card.ensures ∙ ap lent_card c.unwrap-card.ensures in
    let told = subst (λ (n : ℕ). CellsTold n c.unwrap-card.result.now c.cells.result.now c.tell_cells-step.result) c.place-place.ensures c.tell_cells-step.ensures in (
      Some (Ok (Cells c.in-Cells.field-0)),
      next,
      (c.unwrap-card.result.now, last, subst (λ (l : List Cell). CellsTold c.args.self.now.reader.place c.unwrap-card.result.now l c.tell_cells-step.result) c.cells.ensures told, c.counted-self.ensures),
    )
