use Rattle.std.proofs.Common.{◌≡◌, ℕ, List, Err, Result, length, replicate, string_bytes, inl, inr, ap, ◌∙◌, subst, subst₂, arith}
use Rattle.std.proofs.lemmas.Result.{IfOk-weaker}
use Rattle.algebra.specs.Meaning.{Meaning}
use Rattle.codes.specs.Code.{Code}
use Rattle.codes.specs.Checked.{Checked}
use Rattle.codes.specs.Cards.{CardRefused}
use Rattle.decoding.specs.encoding.Encodings.{Encoded}
use Rattle.decoding.specs.declared.encoding.encode_refusal.EncodeRefusal.{EncodeRefusal}
use Rattle.vectors.specs.Answers.{RefusedText}
use Rattle.vectors.specs.Parts.{numbers_in}
use Rattle.vectors.proofs.CodeCases.{two, same_code}
use Rattle.vectors.proofs.cases.encode_case.Goals as goal

-- the same encoding, of what is the same
moved : {m m' : Meaning} {code code' : Code} {letters letters' before before' : List ℕ} (after : List ℕ) (answer : Result (Unit {0}) EncodeRefusal) → m ≡ m' → code ≡ code' → letters ≡ letters' → before ≡ before' → Encoded m code letters before after answer → Encoded m' code' letters' before' after answer
moved {m} {m'} {code} {code'} {letters} {letters'} {before} {before'} after answer a b c d e =
    subst₂ (λ (m : Meaning) (code : Code). Encoded m code letters' before' after answer) a b (subst₂ (λ (l : List ℕ) (h : List ℕ). Encoded m code l h after answer) c d e)

pub returns-in-Ok : goal.returns-in-Ok
returns-in-Ok g c =
    let m = g.F.Field.meaning c.args.field in
    let read = c.in_ok-code.ensures in
    let is = same_code (c.code-2.ensures.letters ∙ read.letters) (c.code-2.ensures.rows ∙ read.rows) (c.code-2.ensures.locators ∙ read.locators) (c.code-2.ensures.multipliers ∙ read.multipliers) in
    let field = ap g.F.Field.meaning c.in-Ok.ensures.0 in
    let letters = c.as_slice.ensures.value ∙ c.in_ok-letters_in.ensures ∙ ap numbers_in read.last in
    let before = c.as_mut_slice.ensures.value ∙ c.in_ok-word.ensures.items_if_clones_equal (λ y e. e) ∙ ap (λ (xs : List ℕ). replicate (length xs) 0) (c.code.ensures.locators ∙ read.locators) in
    IfOk-weaker c.refused.result _ _
    (λ text told. (
      _,
      _,
      two c.args.case.numbers.now (omega (arith, c.in-len2.len_at_least)) (omega (arith, c.in-len2.len_below)),
      inl (
        subst (Checked m) is c.in-Ok.ensures.2,
        (
          c.encode.new.word,
          Err c.in-Err-encode.refusal,
          moved c.encode.new.word (Err c.in-Err-encode.refusal) field (c.in-Ok.ensures.1 ∙ is) letters before c.in-Err-encode.ensures,
          subst (λ (n : ℕ). RefusedText n (string_bytes text)) c.number.ensures told,
        ),
      ),
    )) c.refused.ensures

pub returns : goal.returns
returns g c =
    let m = g.F.Field.meaning c.args.field in
    let read = c.in_ok-code.ensures in
    let is = same_code (c.code-2.ensures.letters ∙ read.letters) (c.code-2.ensures.rows ∙ read.rows) (c.code-2.ensures.locators ∙ read.locators) (c.code-2.ensures.multipliers ∙ read.multipliers) in
    IfOk-weaker c.refused-in-Err.result _ _
    (λ text told. (_, _, two c.args.case.numbers.now (omega (arith, c.in-len2.len_at_least)) (omega (arith, c.in-len2.len_below)), inr (c.in-Err.cause, subst (λ (code : Code). CardRefused m code c.in-Err.cause) is c.in-Err.ensures, subst (λ (n : ℕ). RefusedText n (string_bytes text)) c.number-in-Err.ensures told))) c.refused-in-Err.ensures
