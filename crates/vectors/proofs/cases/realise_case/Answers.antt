use Rattle.std.proofs.Common.{Ok, Err, string_bytes, ◌∙◌, subst, List, ℕ, replicate}
use Rattle.std.proofs.lemmas.Result.{IfOk-weaker}
use Rattle.algebra.specs.Limits.{coefficients}
use Rattle.minimal_pairs.specs.MinimalPair.{Realised}
use Rattle.vectors.specs.Answers.{RefusedText}
use Rattle.vectors.proofs.cases.realise_case.Goals as goal

pub returns-in-Ok : goal.returns-in-Ok
returns-in-Ok g c =
    let A = (g.F.Field.meaning c.args.field.now).arithmetic in
    let sequence = c.as_slice.ensures.value ∙ c.in_ok-sequence.ensures in (
      c.realise.new.f,
      c.realise.new.w,
      Ok c.in-Ok.degree,
      subst (λ (s : List ℕ). Realised A s (replicate coefficients 0) (replicate coefficients 0) c.realise.new.f c.realise.new.w (Ok c.in-Ok.degree)) sequence c.in-Ok.ensures.pinned,
      (_, _, c.up_to_degree-f.ensures, c.up_to_degree-w.ensures, c.in_ok-format-in-Ok.ensures.ok),
    )

pub returns : goal.returns
returns g c =
    let A = (g.F.Field.meaning c.args.field.now).arithmetic in
    let sequence = c.as_slice.ensures.value ∙ c.in_ok-sequence.ensures in
    IfOk-weaker c.refused.result _ _
    (λ text told. (
      c.realise.new.f,
      c.realise.new.w,
      Err c.in-Err.refusal,
      subst (λ (s : List ℕ). Realised A s (replicate coefficients 0) (replicate coefficients 0) c.realise.new.f c.realise.new.w (Err c.in-Err.refusal)) sequence c.in-Err.ensures.pinned,
      subst (λ (n : ℕ). RefusedText n (string_bytes text)) c.number.ensures told,
    )) c.refused.ensures
