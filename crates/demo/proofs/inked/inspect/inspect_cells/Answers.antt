use Rattle.std.proofs.Common.{◌≡◌, ℕ, List, [], ◌∷◌, length, refl, ap, ◌∙◌, subst, subst₂, Ok, Err, Result}
use Rattle.algebra.specs.Meaning.{Arithmetic}
use Rattle.fields.specs.Modulo.{modulo}
use Rattle.fields.specs.declared.prime_field.PrimeField.{PrimeField}
use Rattle.codes.specs.Code.{Code, code_of}
use Rattle.codes.specs.Sums.{syndromes, Lengths}
use Rattle.codes.specs.house.HouseRows.{inked, row_code}
use Rattle.codes.specs.Standings.{Judged, Judgement}
use Rattle.codes.specs.declared.standing.Standing.{Standing}
use Rattle.codes.specs.declared.syndromes.SumsRefusal.{SumsRefusal}
use Rattle.std.specs.Result.{IsOk}
use Rattle.codes.specs.declared.cell.Cell.{Cell}
use Rattle.demo.proofs.inked.inspect.inspect_cells.Goals as goal

right_lengths : (cells : List Cell) → length cells ≡ 20 → Lengths (row_code inked) cells (0 ∷ 0 ∷ 0 ∷ 0 ∷ 0 ∷ 0 ∷ 0 ∷ 0 ∷ [])
right_lengths cells twenty = record { a_multiplier_each = refl; a_cell_each = twenty; a_place_each = refl }

ok : (A : Arithmetic) (cells : List Cell) (after : List ℕ) (r : Result Standing SumsRefusal) → length cells ≡ 20 → Judgement A (row_code inked) cells (0 ∷ 0 ∷ 0 ∷ 0 ∷ 0 ∷ 0 ∷ 0 ∷ 0 ∷ []) after r → IsOk r
ok A cells after (Ok standing) twenty e = refl
ok A cells after (Err refusal) twenty e = absurd (e.1 (right_lengths cells twenty))

pub returns : goal.returns
returns c =
    let values = c.over.ensures.values ∙ c.inked_card-card.ensures.values in
    let meaning = ap (λ (field : PrimeField). modulo field.prime) c.over.ensures.field ∙ ap modulo c.inked_card-card.ensures.made_from in
    let judged : Judgement (modulo c.over.result.field.now.prime) (code_of c.over.result.code) c.args.cells (0 ∷ 0 ∷ 0 ∷ 0 ∷ 0 ∷ 0 ∷ 0 ∷ 0 ∷ []) c.judge.new.row_sums (Ok c.unwrap-standing.result) =
    subst (λ (r : Result Standing SumsRefusal). Judgement (modulo c.over.result.field.now.prime) (code_of c.over.result.code) c.args.cells (0 ∷ 0 ∷ 0 ∷ 0 ∷ 0 ∷ 0 ∷ 0 ∷ 0 ∷ []) c.judge.new.row_sums r) c.unwrap-standing.ensures c.judge.ensures in
    record {
      cells_are = refl;
      sums_are = subst₂ (λ (A : Arithmetic) (code : Code). c.judge.new.row_sums ≡ syndromes A code c.args.cells) meaning values judged.1;
      standing_is = subst₂ (λ (A : Arithmetic) (code : Code). Judged A code c.args.cells c.unwrap-standing.result) meaning values judged.2;
    }
