use Rattle.std.proofs.Common.{◌≡◌, ℕ, List, length, replicate, string_bytes, inl, inr, sym, ap, ◌∙◌, subst, ap₂, arith}
use Rattle.std.proofs.lemmas.List.{length-replicate}
use Rattle.std.proofs.lemmas.Result.{IfOk-weaker}
use Rattle.codes.specs.Code.{Code}
use Rattle.codes.specs.Checked.{Checked}
use Rattle.codes.specs.Cards.{CardRefused}
use Rattle.codes.specs.declared.cell.Cell.{Cell}
use Rattle.tags.specs.runs.Rooms.{used}
use Rattle.vectors.specs.Answers.{RefusedText}
use Rattle.vectors.specs.Parts.{cells_in}
use Rattle.vectors.specs.ReadAnswers.{notes_and_read}
use Rattle.vectors.proofs.CodeCases.{two, same_code}
use Rattle.vectors.proofs.Journals.{lent_notes_and_read, same_played}
use Rattle.vectors.proofs.cases.read_case.Goals as goal

pub played_text-requires : goal.played_text-requires
played_text-requires g c =
    let locators = c.code.ensures.locators ∙ c.in_ok-code.ensures.locators in
    let are = c.as_slice.ensures.value ∙ c.in_ok-calls.ensures in
    let room = c.as_mut_slice.ensures.value ∙ c.in_ok-room-in-Ok.ensures.items_if_clones_equal (λ y e. e) in
    let numbers : length c.as_mut_slice.result.now ≡ used c.as_slice.result.now = ap (λ (xs : List ℕ). length xs) room ∙ length-replicate _ 0 ∙ sym (ap used are ∙ lent_notes_and_read (cells_in c.in_ok-code.code.last.now) _) in
    omega (arith, numbers)

pub returns-in-Ok : goal.returns-in-Ok
returns-in-Ok g c =
    let m = g.F.Field.meaning c.args.field in
    let read = c.in_ok-code.ensures in
    let is = same_code (c.code-2.ensures.letters ∙ read.letters) (c.code-2.ensures.rows ∙ read.rows) (c.code-2.ensures.locators ∙ read.locators) (c.code-2.ensures.multipliers ∙ read.multipliers) in
    let field = ap g.F.Field.meaning c.in-Ok.ensures.0 in
    let code = c.in-Ok.ensures.1 ∙ is in
    let locators = c.code.ensures.locators ∙ read.locators in
    let are = c.as_slice.ensures.value ∙ c.in_ok-calls.ensures ∙ ap₂ (λ (cells : List Cell) (n : ℕ). notes_and_read cells n) (ap cells_in read.last) (ap (λ (xs : List ℕ). length xs) locators) in
    let room = c.as_mut_slice.ensures.value ∙ c.in_ok-room-in-Ok.ensures.items_if_clones_equal (λ y e. e) ∙ ap (λ (xs : List ℕ). replicate (length xs) 0) locators in
    IfOk-weaker c.played_text.result _ _
    (λ text told. (
      _,
      _,
      two c.args.case.numbers.now (omega (arith, c.in-len2.len_at_least)) (omega (arith, c.in-len2.len_below)),
      inl (subst (Checked m) is c.in-Ok.ensures.2, same_played (string_bytes text) field code room are told),
    )) c.played_text.ensures

pub returns : goal.returns
returns g c =
    let m = g.F.Field.meaning c.args.field in
    let read = c.in_ok-code.ensures in
    let is = same_code (c.code-2.ensures.letters ∙ read.letters) (c.code-2.ensures.rows ∙ read.rows) (c.code-2.ensures.locators ∙ read.locators) (c.code-2.ensures.multipliers ∙ read.multipliers) in
    IfOk-weaker c.refused.result _ _
    (λ text told. (_, _, two c.args.case.numbers.now (omega (arith, c.in-len2.len_at_least)) (omega (arith, c.in-len2.len_below)), inr (c.in-Err.cause, subst (λ (code : Code). CardRefused m code c.in-Err.cause) is c.in-Err.ensures, subst (λ (n : ℕ). RefusedText n (string_bytes text)) c.number.ensures told))) c.refused.ensures
