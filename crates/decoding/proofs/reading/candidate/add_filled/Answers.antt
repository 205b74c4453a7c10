use Rattle.std.proofs.Common.{◌≡◌, ℕ, false, true, length, get_or, set, is_some, Some, None, Option, Bor, sym, refl, ap, ◌∙◌, subst, ap₂, arith, length-set}
use Rattle.std.proofs.lemmas.List.{length_push}
use Rattle.std.proofs.lemmas.Bool.{true≢false}
use Rattle.std.specs.Iterator.Adapters.{zip_first, zip_second}
use Rattle.std.specs.Slice.Iter.{iter_rest}
use Rattle.algebra.specs.Meaning.{Arithmetic}
use Rattle.algebra.specs.Power.{times_power}
use Rattle.codes.specs.Code.{Code}
use Rattle.codes.specs.Cards.{card_code}
use Rattle.codes.specs.Cells.{blank_cell}
use Rattle.codes.specs.Sums.{syndromes}
use Rattle.codes.specs.declared.cell.Cell.{Cell}
use Rattle.codes.proofs.CellParts.{syndrome_set_noted}
use Rattle.codes.proofs.Codewords.{length_syndromes}
use Rattle.decoding.proofs.reading_lemmas.ErasingSteps.{ChangedTo, noted_at, changed_none, changed_keep, changed_set, sums_rows, sums_all, sums_more, all_noted, agrees_noted}
use Rattle.decoding.proofs.reading_lemmas.Zipped.{together, all_gone}
use Rattle.decoding.proofs.reading.candidate.add_filled.Goals as goal

is_none : (o : Option ℕ) → is_some o ≡ false → o ≡ None
is_none None e = refl
is_none (Some x) e = absurd (true≢false e)

pub loop-cell-init : goal.loop-cell-init
loop-cell-init g c =
    let card = c.args.card.now in
    let A = (g.F.Field.meaning card.field).arithmetic in (
      c.args.cells.now,
      refl,
      changed_none (noted_at c.args.word.now) c.args.cells.now,
      sums_rows A (card_code card) c.args.cells.now c.args.sums.now c.requires.summed,
    )

pub loop-cell-preserved-then-is_none : goal.loop-cell-preserved-then-is_none
loop-cell-preserved-then-is_none g c =
    let card = c.args.card.now in
    let same = c.code-code.ensures in
    let B = (g.F.Field.meaning c.field-field.result.now).arithmetic in
    let A = (g.F.Field.meaning card.field).arithmetic in
    let B-is : B ≡ A = ap (λ f. (g.F.Field.meaning f).arithmetic) c.field-field.ensures in
    let code = card_code card in
    let cells = c.args.cells.now in
    let word = c.args.word.now in
    let lent = c.code-code.result in
    let sums = c.loop-cell.sums in
    let xs = c.loop-cell.yielded in
    let j = length xs in
    let p : (Bor Cell × Bor ℕ) × (Bor ℕ × Bor ℕ) = ((c.in-Some.cell, c.in-Some.letter), (c.in-Some.locator, c.in-Some.multiplier)) in
    let gives = c.into_iter-cell-iterator.ensures.into_iter_gives in
    let outer = c.zip-cell-items.ensures in
    let first : iter_rest (zip_first (zip_first c.into_iter-cell-iterator.result)) ≡ cells =
    ap (λ s. iter_rest (zip_first (zip_first s))) gives ∙ ap (λ s. iter_rest (zip_first s)) outer.first ∙ ap iter_rest c.zip.ensures.first ∙ c.iter-2.ensures.rest in
    let second : iter_rest (zip_second (zip_first c.into_iter-cell-iterator.result)) ≡ word =
    ap (λ s. iter_rest (zip_second (zip_first s))) gives ∙ ap (λ s. iter_rest (zip_second s)) outer.first ∙ c.zip.ensures.second.0 in
    let third : iter_rest (zip_first (zip_second c.into_iter-cell-iterator.result)) ≡ lent.locators.now =
    ap (λ s. iter_rest (zip_first (zip_second s))) gives ∙ ap (λ s. iter_rest (zip_first s)) outer.second ∙ ap iter_rest c.zip-places.ensures.first ∙ c.iter.ensures.rest in
    let fourth : iter_rest (zip_second (zip_second c.into_iter-cell-iterator.result)) ≡ lent.multipliers.now =
    ap (λ s. iter_rest (zip_second (zip_second s))) gives ∙ ap (λ s. iter_rest (zip_second s)) outer.second ∙ c.zip-places.ensures.second.0 in
    let turn = together cells word lent.locators.now lent.multipliers.now c.into_iter-cell-iterator.result c.loop-cell.cell-iterator c.next.new.self xs c.next.result
    first second third fourth c.loop-cell.yielded_by c.next.ensures.steps p c.in-Some.is in
    let here = turn.within in
    let cell-is = turn.first blank_cell in
    let letter-is = turn.second 0 in
    let a = get_or code.locators j 0 in
    let a-is : c.in-Some.locator.now ≡ a =
    turn.third 0
    ∙ ap (λ (x : Code). get_or x.locators j 0) same in
    let multiplier-is : c.in-Some.multiplier.now ≡ get_or code.multipliers j 0 =
    turn.fourth 0
    ∙ ap (λ (x : Code). get_or x.multipliers j 0) same in
    let (mixed, long, changed, summed) = c.loop-cell.invariant in
    let blank : (get_or mixed j blank_cell).letter ≡ None =
    ap (λ (x : Cell). x.letter) (changed.above j (omega arith) ∙ sym cell-is) ∙ is_none _ c.if-is_none.ensures in
    let x = A.times (get_or word j 0) (get_or code.multipliers j 0) in
    let x-is : c.mul-weighted.result ≡ x =
    c.mul-weighted.ensures ∙ ap (λ (A : Arithmetic). A.times c.in-Some.letter.now c.in-Some.multiplier.now) B-is ∙ ap₂ A.times letter-is multiplier-is in (
      set mixed j (noted_at word j),
      length-set mixed j (noted_at word j) ∙ long,
      subst (ChangedTo (noted_at word) cells (set mixed j (noted_at word j))) (sym (length_push xs p)) (changed_set (noted_at word) cells mixed j (omega (arith, here)) changed),
      sums_more A code mixed (set mixed j (noted_at word j)) sums c.add_powers.new.sums x a summed c.add_powers.auto.sums
          (λ k h. c.add_powers.ensures k h
          ∙ ap (λ (A : Arithmetic). A.plus (get_or sums k 0) (times_power A c.mul-weighted.result c.in-Some.locator.now k)) B-is
          ∙ ap₂ (λ x a. A.plus (get_or sums k 0) (times_power A x a k)) x-is a-is)
          (λ k. syndrome_set_noted card.checked.laws.total card.checked.laws.ring code mixed j (get_or word j 0) k (omega (arith, here)) blank),
    )

pub loop-cell-preserved : goal.loop-cell-preserved
loop-cell-preserved g c =
    let cells = c.args.cells.now in
    let word = c.args.word.now in
    let lent = c.code-code.result in
    let xs = c.loop-cell.yielded in
    let j = length xs in
    let p : (Bor Cell × Bor ℕ) × (Bor ℕ × Bor ℕ) = ((c.in-Some.cell, c.in-Some.letter), (c.in-Some.locator, c.in-Some.multiplier)) in
    let gives = c.into_iter-cell-iterator.ensures.into_iter_gives in
    let outer = c.zip-cell-items.ensures in
    let first : iter_rest (zip_first (zip_first c.into_iter-cell-iterator.result)) ≡ cells =
    ap (λ s. iter_rest (zip_first (zip_first s))) gives ∙ ap (λ s. iter_rest (zip_first s)) outer.first ∙ ap iter_rest c.zip.ensures.first ∙ c.iter-2.ensures.rest in
    let second : iter_rest (zip_second (zip_first c.into_iter-cell-iterator.result)) ≡ word =
    ap (λ s. iter_rest (zip_second (zip_first s))) gives ∙ ap (λ s. iter_rest (zip_second s)) outer.first ∙ c.zip.ensures.second.0 in
    let third : iter_rest (zip_first (zip_second c.into_iter-cell-iterator.result)) ≡ lent.locators.now =
    ap (λ s. iter_rest (zip_first (zip_second s))) gives ∙ ap (λ s. iter_rest (zip_first s)) outer.second ∙ ap iter_rest c.zip-places.ensures.first ∙ c.iter.ensures.rest in
    let fourth : iter_rest (zip_second (zip_second c.into_iter-cell-iterator.result)) ≡ lent.multipliers.now =
    ap (λ s. iter_rest (zip_second (zip_second s))) gives ∙ ap (λ s. iter_rest (zip_second s)) outer.second ∙ c.zip-places.ensures.second.0 in
    let turn = together cells word lent.locators.now lent.multipliers.now c.into_iter-cell-iterator.result c.loop-cell.cell-iterator c.next.new.self xs c.next.result
    first second third fourth c.loop-cell.yielded_by c.next.ensures.steps p c.in-Some.is in
    let here = turn.within in
    let cell-is = turn.first blank_cell in
    let (mixed, long, changed, summed) = c.loop-cell.invariant in
    let noted : is_some (get_or cells j blank_cell).letter ≡ true = ap (λ (x : Cell). is_some x.letter) (sym cell-is) ∙ c.if-is_none.ensures in (
      mixed,
      long,
      subst (ChangedTo (noted_at word) cells mixed) (sym (length_push xs p)) (changed_keep (noted_at word) cells mixed j changed (agrees_noted cells word j noted (c.requires.agrees j here))),
      summed,
    )

pub returns : goal.returns
returns g c =
    let card = c.args.card.now in
    let A = (g.F.Field.meaning card.field).arithmetic in
    let code = card_code card in
    let cells = c.args.cells.now in
    let word = c.args.word.now in
    let lent = c.code-code.result in
    let xs = c.loop-cell.yielded in
    let (mixed, long, changed, summed) = c.loop-cell.invariant in
    let locators = ap (λ (x : Code). length x.locators) c.code-code.ensures in
    let multipliers = ap (λ (x : Code). length x.multipliers) c.code-code.ensures in
    let gives = c.into_iter-cell-iterator.ensures.into_iter_gives in
    let outer = c.zip-cell-items.ensures in
    let first : iter_rest (zip_first (zip_first c.into_iter-cell-iterator.result)) ≡ cells =
    ap (λ s. iter_rest (zip_first (zip_first s))) gives ∙ ap (λ s. iter_rest (zip_first s)) outer.first ∙ ap iter_rest c.zip.ensures.first ∙ c.iter-2.ensures.rest in
    let second : iter_rest (zip_second (zip_first c.into_iter-cell-iterator.result)) ≡ word =
    ap (λ s. iter_rest (zip_second (zip_first s))) gives ∙ ap (λ s. iter_rest (zip_second s)) outer.first ∙ c.zip.ensures.second.0 in
    let third : iter_rest (zip_first (zip_second c.into_iter-cell-iterator.result)) ≡ lent.locators.now =
    ap (λ s. iter_rest (zip_first (zip_second s))) gives ∙ ap (λ s. iter_rest (zip_first s)) outer.second ∙ ap iter_rest c.zip-places.ensures.first ∙ c.iter.ensures.rest in
    let fourth : iter_rest (zip_second (zip_second c.into_iter-cell-iterator.result)) ≡ lent.multipliers.now =
    ap (λ s. iter_rest (zip_second (zip_second s))) gives ∙ ap (λ s. iter_rest (zip_second s)) outer.second ∙ c.zip-places.ensures.second.0 in
    let gone = all_gone cells word lent.locators.now lent.multipliers.now c.into_iter-cell-iterator.result c.loop-cell.cell-iterator c.next.new.self xs c.next.result first second third fourth c.loop-cell.yielded_by c.next.ensures.steps c.in-None.is c.requires.as_long
    (locators ∙ sym c.requires.long) (multipliers ∙ card.checked.shape.a_multiplier_each ∙ sym c.requires.long) in
    let all = all_noted cells mixed word (length xs) (long ∙ sym c.requires.as_long) (omega (arith, c.requires.as_long, gone)) changed in
    sums_all A code mixed c.loop-cell.sums (omega (arith, ap length c.requires.summed, length_syndromes A code cells)) summed ∙ ap (syndromes A code) all
