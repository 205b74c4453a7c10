use Rattle.std.proofs.Common.{◌≡◌, ℕ, ◌+◌, ◌-◌, ◌<◌, ◌≤◌, List, length, take, Ok, Err, Result, sym, refl, ap, ◌∙◌, subst, arith, rules}
use borrow.Rule.Slice.PartMut.{put_mid}
use Rattle.std.specs.Result.{IsErrAnd, MatchResult}
use Rattle.arrayvec.specs.ArrayVec.{ArrayVec}
use Rattle.arrayvec.specs.declared.errors.CapacityError.{CapacityError}
use Rattle.codes.specs.Code.{Code}
use Rattle.codes.specs.Standings.{Lettered}
use Rattle.codes.specs.declared.cell.Cell.{Cell}
use Rattle.tray_file.specs.declared.writer.write_refusal.WriteRefusal.{WriteRefusal}
use Rattle.demo.specs.Filed.{card_record, cells_record, FiledTag}
use Rattle.demo.proofs.FiledTags.{card_refused, cells_refused, card_put, both}
use Rattle.demo.proofs.saturday.file_tag.Goals as goal

broken : (cells : List Cell) (r : Result (ArrayVec ℕ) WriteRefusal) (refusal : WriteRefusal) → IsErrAnd r (λ e. e ≡ refusal) → FiledTag cells (Err refusal) → FiledTag cells r
broken cells (Ok file) refusal same filed = absurd same
broken cells (Err e) refusal same filed = subst (λ (x : WriteRefusal). FiledTag cells (Err x)) (sym same) filed

pub returns-in_err-first : goal.returns-in_err-first
returns-in_err-first c =
    let card = c.inked_card.ensures in
    broken c.args.cells.now c.from_residual.result c.in_err-first.field-0.0 c.from_residual.ensures.1
    (card_refused c.args.cells.now _ _ _ _ c.in_err-first.field-0.0 card.made_from card.values refl c.in_err-first.ensures.written)

pub returns-in_err-second : goal.returns-in_err-second
unfolding card_record
returns-in_err-second c =
    let card = c.inked_card.ensures in
    let first = card_put _ _ _ _ _ card.made_from card.values c.in_ok-first.ensures.written in
    let twenty : length c.args.cells.now ≡ 20 = search rules in
    let room = first.room in
    let size = first.size in
    broken c.args.cells.now c.from_residual-in_err-second.result c.in_err-second.field-0.0 c.from_residual-in_err-second.ensures.1
    (cells_refused c.args.cells.now _ _ _ c.in_err-second.field-0.0 c.in_ok-first.first c.inked_card-2.ensures.values first.size (omega arith) (search rules) twenty c.in_err-second.ensures.written)

kept : (file : List ℕ) (r : Result (ArrayVec ℕ) (CapacityError (Unit {0}))) (v : ArrayVec ℕ) → r ≡ Ok v → MatchResult r (λ (v : ArrayVec ℕ). (v.items ≡ file) × (length file ≤ 128)) (λ (e : CapacityError (Unit {0})). 128 < length file) → v.items ≡ file
kept file r v is m = (subst (λ (r : Result (ArrayVec ℕ) (CapacityError (Unit {0}))). MatchResult r (λ (v : ArrayVec ℕ). (v.items ≡ file) × (length file ≤ 128)) (λ (e : CapacityError (Unit {0})). 128 < length file)) is m).0

pub returns : goal.returns
unfolding card_record cells_record
returns c =
    let card = c.inked_card.ensures in
    let first = card_put _ _ _ _ _ card.made_from card.values c.in_ok-first.ensures.written in
    let written = c.in_ok-second.ensures.written in
    let second = written.2 in
    let all : c.in_ok-first.first + c.in_ok-second.second - 0 ≡ c.in_ok-first.first + c.in_ok-second.second = omega arith in (
      subst (λ (k : Code). Lettered k.letters c.args.cells.now) c.inked_card-2.ensures.values written.1,
      kept _ c.try_from.result c.unwrap.result c.unwrap.ensures c.try_from.ensures
          ∙ ap (λ n. take n (put_mid c.in_ok-first.first (128 - c.in_ok-first.first) c.write_card.new.buffer c.write_cells.new.buffer)) all
          ∙ both c.in_ok-first.first c.in_ok-second.second card_record (cells_record c.args.cells.now) _ _ _ _ _ first.size second.size first.bytes second.bytes,
    )
