use Rattle.std.proofs.Common.{Ok, Err, Result, IfOk, string_bytes, inr, subst, ◌∙◌}
use Rattle.vectors.specs.CaseAnswers.{Answered}
use Rattle.vectors.proofs.answer_line.Goals as goal

if_ok : {T E : Type 0} (P Q : T → Type 0) → ((t : T) → P t → Q t) → (r : Result T E) → IfOk r P → IfOk r Q
if_ok P Q f (Ok t) p = f t p
if_ok P Q f (Err e) p = tt

pub returns : goal.returns
returns c =
    let case = c.as_str.ensures.value ∙ c.in_ok-case.ensures in
    if_ok _ _ (λ text answered. inr (_, c.is_of_marks.ensures, subst (λ line. Answered line (string_bytes text)) case answered)) c.answer-2.result c.answer-2.ensures
