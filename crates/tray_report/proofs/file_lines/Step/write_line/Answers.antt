use Rattle.std.specs.Prelude.{codes}
use Rattle.std.proofs.Common.{◌∙◌, ◌++◌, ℕ, List, decimal, sym, ap, subst}
use Rattle.codes.specs.WordText.{word_text}
use Rattle.tray_report.specs.FileText.{step_text}
use Rattle.tray_report.specs.Putting.{Puts}
use Rattle.tray_report.specs.ReportLines.{layer_word}
use Rattle.tray_report.specs.declared.file_lines.Step.{Step}
use Rattle.tray_report.specs.declared.file_lines.Step.TheVariants as step
use Rattle.tray_report.proofs.Putting.{three_fields, two_fields}
use Rattle.tray_report.proofs.file_lines.Step.write_line.Goals as goal

pub returns-in-Read : goal.returns-in-Read
returns-in-Read g c =
    let old = g.W.Write.contents c.args.out.now in
    let new = g.W.Write.contents c.put_line.new.out in
    let word = c.in-Read.word in
    subst (λ (s : Step). Puts old new (step_text s) c.put_line.result) (sym c.in-Read.is)
    (subst (λ (l : List ℕ). Puts old new l c.put_line.result)
    (three_fields (codes "READ ") (decimal c.in-Read.place) (codes " ") (decimal word.counts.wrong) (codes " ") (decimal word.counts.blank) (word_text c.as_slice.result.now) (codes "\n")
    ∙ ap (λ (l : List ℕ). step_text (step.Read c.in-Read.place (record { counts = word.counts; letters = l }))) c.as_slice.ensures.value)
    c.put_line.ensures)

pub returns-in-Lost : goal.returns-in-Lost
returns-in-Lost g c =
    let old = g.W.Write.contents c.args.out.now in
    let new = g.W.Write.contents c.put_line-in-Lost.new.out in
    let line = c.in-Lost.line in
    subst (λ (s : Step). Puts old new (step_text s) c.put_line-in-Lost.result) (sym c.in-Lost.is)
    (subst (λ (l : List ℕ). Puts old new l c.put_line-in-Lost.result)
    (two_fields (codes "LOST ") (decimal line.place) (codes " ") (decimal c.number.result) (codes "\n")
    ∙ ap (λ (n : ℕ). (codes "LOST " ++ (decimal line.place ++ (codes " " ++ decimal n))) ++ codes "\n") c.number.ensures)
    c.put_line-in-Lost.ensures)

pub returns-in-Fault : goal.returns-in-Fault
returns-in-Fault g c =
    let old = g.W.Write.contents c.args.out.now in
    let new = g.W.Write.contents c.put_line-in-Fault.new.out in
    let fault = c.in-Fault.line.fault in
    subst (λ (s : Step). Puts old new (step_text s) c.put_line-in-Fault.result) (sym c.in-Fault.is)
    (subst (λ (l : List ℕ). Puts old new l c.put_line-in-Fault.result)
    (two_fields (codes "FAULT ") (decimal fault.place) c.layer_name.result.now (decimal c.number-in-Fault.result) (codes "\n")
    ∙ ap (λ (l : List ℕ). (codes "FAULT " ++ (decimal fault.place ++ (l ++ decimal c.number-in-Fault.result))) ++ codes "\n") c.layer_name.ensures
    ∙ ap (λ (n : ℕ). (codes "FAULT " ++ (decimal fault.place ++ (layer_word fault.layer ++ decimal n))) ++ codes "\n") c.number-in-Fault.ensures)
    c.put_line-in-Fault.ensures)
