use Rattle.std.proofs.Common.{ℕ, List, [], ◌∷◌, ◌++◌, map, Some, None, Result, refl, ◌∙◌, subst, arith}
use Rattle.std.proofs.lemmas.List.{length-append, length-map}
use Rattle.std.proofs.lemmas.Result.{err_from_is_err_and}
use Rattle.tray_file.specs.reader.Entries.{entry_of}
use Rattle.tray_file.specs.reader.Files.{File}
use Rattle.tray_file.specs.reader.Readers.{Next}
use Rattle.tray_file.specs.declared.fault.Fault.{Fault}
use Rattle.tray_file.specs.declared.reader.record.Record.{Record}
use Rattle.tray_file.proofs.reader_lemmas.Answers.{fewer_left, answers_more, file_end, file_fault}
use Rattle.tray_file.proofs.reader.whole_file.check_file.Goals as goal

pub loop-answer-init : goal.loop-answer-init
loop-answer-init c = (c.args.file, c.new-reader.result, [], refl, c.new-reader.ensures, refl, refl)

pub returns-in_err-answer : goal.returns-in_err-answer
returns-in_err-answer c =
    let inv = c.loop-answer.invariant in
    let p = err_from_is_err_and c.from_residual.result c.from_residual.ensures.1 in
    let step = subst (λ (a : Result Record Fault). Next c.loop-answer.reader (Some a) c.next.new.self) c.in_err-answer.was c.in-Some.ensures.step in
    let fault = c.in_err-answer.field-0.0 in
    rw (p.1, p.2) ((
      map entry_of inv.2,
      subst (λ (l : List ℕ). File l (map entry_of inv.2) (Some fault)) inv.3 (file_fault inv.0 inv.2 inv.1 c.loop-answer.reader c.next.new.self fault inv.4 inv.5 step),
    ))

pub loop-answer-smaller : goal.loop-answer-smaller
loop-answer-smaller c =
    let step = subst (λ (a : Result Record Fault). Next c.loop-answer.reader (Some a) c.next.new.self) c.in_ok-answer.was c.in-Some.ensures.step in
    omega (arith, fewer_left c.loop-answer.reader c.next.new.self c.in_ok-answer.field-0 step)

pub loop-answer-preserved : goal.loop-answer-preserved
loop-answer-preserved c =
    let inv = c.loop-answer.invariant in
    let step = subst (λ (a : Result Record Fault). Next c.loop-answer.reader (Some a) c.next.new.self) c.in_ok-answer.was c.in-Some.ensures.step in
    (inv.0, inv.1, inv.2 ++ c.in_ok-answer.field-0 ∷ [], inv.3, inv.4, answers_more inv.2 inv.1 c.loop-answer.reader c.next.new.self c.in_ok-answer.field-0 inv.5 step, omega (arith, inv.6, length-append inv.2 (c.in_ok-answer.field-0 ∷ [])))

pub returns : goal.returns
returns c =
    let inv = c.loop-answer.invariant in (
      map entry_of inv.2,
      subst (λ (l : List ℕ). File l (map entry_of inv.2) None) inv.3 (file_end inv.0 inv.2 inv.1 c.loop-answer.reader c.next.new.self inv.4 inv.5 c.in_default.ensures.step),
      length-map inv.2 entry_of ∙ inv.6,
    )
