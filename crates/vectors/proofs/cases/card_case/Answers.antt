use Rattle.std.proofs.Common.{ℕ, string_bytes, inl, inr, ◌∙◌, subst, arith}
use Rattle.std.proofs.lemmas.Result.{IfOk-weaker}
use Rattle.codes.specs.Code.{Code}
use Rattle.codes.specs.Checked.{Checked}
use Rattle.codes.specs.Cards.{CardRefused}
use Rattle.vectors.specs.Answers.{RefusedText}
use Rattle.vectors.proofs.CodeCases.{two, same_code}
use Rattle.vectors.proofs.cases.card_case.Goals as goal

pub returns-in-Ok : goal.returns-in-Ok
returns-in-Ok g c =
    let m = g.F.Field.meaning c.args.field in
    let read = c.in_ok-code.ensures in
    let is = same_code (c.code.ensures.letters ∙ read.letters) (c.code.ensures.rows ∙ read.rows) (c.code.ensures.locators ∙ read.locators) (c.code.ensures.multipliers ∙ read.multipliers) in
    (_, _, two c.args.case.numbers.now (omega (arith, c.in-len2.len_at_least)) (omega (arith, c.in-len2.len_below)), inl (subst (Checked m) is c.in-Ok.ensures.2, c.in_ok-format-in-Ok.ensures.ok))

pub returns : goal.returns
returns g c =
    let m = g.F.Field.meaning c.args.field in
    let read = c.in_ok-code.ensures in
    let is = same_code (c.code.ensures.letters ∙ read.letters) (c.code.ensures.rows ∙ read.rows) (c.code.ensures.locators ∙ read.locators) (c.code.ensures.multipliers ∙ read.multipliers) in
    IfOk-weaker c.refused.result _ _
    (λ text told. (_, _, two c.args.case.numbers.now (omega (arith, c.in-len2.len_at_least)) (omega (arith, c.in-len2.len_below)), inr (c.in-Err.cause, subst (λ (code : Code). CardRefused m code c.in-Err.cause) is c.in-Err.ensures, subst (λ (n : ℕ). RefusedText n (string_bytes text)) c.number.ensures told))) c.refused.ensures
