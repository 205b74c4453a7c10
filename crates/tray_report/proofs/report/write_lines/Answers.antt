use Rattle.std.proofs.Common.{ℕ, List, [], ◌∷◌, ◌++◌, refl, sym, subst, arith}
use Rattle.std.proofs.KnownBytes.{Appends-nil, Appends-trans}
use Rattle.std.specs.Io.KnownBytes.{Appends}
use Rattle.tray_report.specs.FileText.{FileText, step_text, steps_text}
use Rattle.std.proofs.lemmas.Result.{err_from_is_err_and}
use Rattle.tray_report.specs.Putting.{AppendsBeginning, LinesWritten}
use Rattle.tray_report.proofs.FileTexts.{told_more, text_more, every_telling, fewer_stepped}
use Rattle.tray_report.proofs.Beginnings.{told_front}
use Rattle.tray_report.proofs.OneText.{one_text}
use Rattle.tray_report.proofs.Putting.{begin_front, begin_more}
use Rattle.tray_report.proofs.report.write_lines.Goals as goal

pub loop-step-init : goal.loop-step-init
loop-step-init g c = (c.args.file, c.new-lines.result, [], refl, c.new-lines.ensures, refl, Appends-nil (g.W.Write.contents c.args.out.now))

pub loop-step-smaller : goal.loop-step-smaller
loop-step-smaller g c = omega (arith, fewer_stepped c.loop-step.lines c.step-step.new.self c.step-step.result c.step-step.ensures.step (sym c.if-not-goes_on.ensures))

pub loop-step-preserved : goal.loop-step-preserved
loop-step-preserved g c =
    let inv = c.loop-step.invariant in
    let told = c.step-step.result in (
      inv.0,
      inv.1,
      inv.2 ++ told ∷ [],
      inv.3,
      inv.4,
      told_more inv.1 inv.2 _ told _ inv.5 c.step-step.ensures.step (sym c.if-not-goes_on.ensures),
      subst (Appends _ _) (sym (text_more inv.2 told)) (Appends-trans _ _ _ (steps_text inv.2) (step_text told) inv.6 c.in_ok-write_line.ensures),
    )

pub returns-in_err-write_line-clause-text : goal.returns-in_err-write_line-clause-text
returns-in_err-write_line-clause-text g c =
    let inv = c.loop-step.invariant in
    let told = c.step-step.result in
    let file = c.args.file.now in
    let old = g.W.Write.contents c.args.out.now in
    let mid = g.W.Write.contents c.loop-step.out in
    let new = g.W.Write.contents c.write_line.new.out in
    let p = err_from_is_err_and c.from_residual.result c.from_residual.ensures.1 in
    subst (LinesWritten old new file) (sym p.1) (λ (text : List ℕ) (is : FileText file text).
    let front = told_front inv.0 inv.1 c.loop-step.lines c.step-step.new.self inv.2 told text inv.4 inv.5 c.step-step.ensures.step (subst (λ (l : List ℕ). FileText l text) (sym inv.3) is) in
    subst (AppendsBeginning old new) (sym front.1)
    (begin_front old new (steps_text inv.2 ++ step_text told) front.0 (begin_more old mid new (steps_text inv.2) (step_text told) inv.6 c.in_err-write_line.ensures)))

pub returns-then-not-goes_on-clause-text : goal.returns-then-not-goes_on-clause-text
returns-then-not-goes_on-clause-text g c =
    let inv = c.loop-step.invariant in
    let told = c.step-step.result in (
      steps_text inv.2 ++ step_text told,
      subst (λ (l : List ℕ). FileText l (steps_text inv.2 ++ step_text told)) inv.3
          (every_telling inv.0 inv.1 c.loop-step.lines c.step-step.new.self inv.2 told inv.4 inv.5 c.step-step.ensures.step (sym c.if-not-goes_on.ensures)),
      Appends-trans _ _ _ (steps_text inv.2) (step_text told) inv.6 c.in_ok-write_line.ensures,
    )

pub returns-then-not-goes_on-clause-one : goal.returns-then-not-goes_on-clause-one
returns-then-not-goes_on-clause-one g c = one_text

pub returns-in_err-write_line-clause-one : goal.returns-in_err-write_line-clause-one
returns-in_err-write_line-clause-one g c = one_text
