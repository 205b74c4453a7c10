use Rattle.std.proofs.Common.{◌≡◌, suc, length, is_some, sym, ap, ◌∙◌, ap₂, add-one, arith}
use Rattle.std.proofs.lemmas.List.{length_push}
use Rattle.std.proofs.lemmas.Slice.Zip.{zip_turn, zip_end}
use Rattle.algebra.specs.Polynomial.{linear_product}
use Rattle.codes.specs.Cells.{blank_cell}
use Rattle.codes.specs.declared.cell.Cell.{Cell}
use Rattle.decoding.specs.filling.Fillings.{blanks_below, annihilator_below}
use Rattle.decoding.proofs.filling_lemmas.Blanks.{length_blank_places, blank_more, noted_more, blank_room, annihilator_blank, annihilator_noted}
use Rattle.decoding.proofs.filling.erasures.blank_annihilator.Goals as goal

pub loop-cell-init : goal.loop-cell-init
unfolding annihilator_below
loop-cell-init g c = (c.one-product.ensures.value, c.one-product.ensures.constant)

pub times_linear-product-requires : goal.times_linear-product-requires
times_linear-product-requires g c =
    let cells = c.args.cells.now in
    let j = length c.loop-cell.yielded in
    let t = zip_turn cells c.args.locators.now c.loop-cell.yielded c.into_iter-cell-iterator.result c.loop-cell.cell-iterator c.next.new.self c.next.result (cc) (cc) c.loop-cell.yielded_by (c.in-Some.cell, c.in-Some.locator) c.in-Some.is c.next.ensures.steps in
    let room = blank_room cells (length cells) j t.0 (ap (λ (x : Cell). is_some x.letter) (sym (t.2 blank_cell)) ∙ c.if-is_none.ensures) in
    omega (arith, length_blank_places cells, room, c.loop-cell.invariant.1)

pub loop-cell-preserved-then-is_none : goal.loop-cell-preserved-then-is_none
loop-cell-preserved-then-is_none g c =
    let A = (g.F.Field.meaning c.args.field.now).arithmetic in
    let cells = c.args.cells.now in
    let locators = c.args.locators.now in
    let j = length c.loop-cell.yielded in
    let t = zip_turn cells locators c.loop-cell.yielded c.into_iter-cell-iterator.result c.loop-cell.cell-iterator c.next.new.self c.next.result (cc) (cc) c.loop-cell.yielded_by (c.in-Some.cell, c.in-Some.locator) c.in-Some.is c.next.ensures.steps in
    let blank = ap (λ (x : Cell). is_some x.letter) (sym (t.2 blank_cell)) ∙ c.if-is_none.ensures in
    let next = length_push c.loop-cell.yielded (c.in-Some.cell, c.in-Some.locator) in
    let product = c.times_linear-product.ensures in (
      product.product ∙ ap₂ (linear_product A) (t.3 0) c.loop-cell.invariant.0
          ∙ sym (ap (annihilator_below A locators cells) next ∙ annihilator_blank cells A locators j blank),
      product.higher ∙ ap suc c.loop-cell.invariant.1
          ∙ sym (ap (λ i. length (blanks_below cells i)) (next ∙ add-one j) ∙ ap length (blank_more cells j blank)),
    )

pub loop-cell-preserved : goal.loop-cell-preserved
loop-cell-preserved g c =
    let A = (g.F.Field.meaning c.args.field.now).arithmetic in
    let cells = c.args.cells.now in
    let locators = c.args.locators.now in
    let j = length c.loop-cell.yielded in
    let t = zip_turn cells locators c.loop-cell.yielded c.into_iter-cell-iterator.result c.loop-cell.cell-iterator c.next.new.self c.next.result (cc) (cc) c.loop-cell.yielded_by (c.in-Some.cell, c.in-Some.locator) c.in-Some.is c.next.ensures.steps in
    let noted = ap (λ (x : Cell). is_some x.letter) (sym (t.2 blank_cell)) ∙ c.if-is_none.ensures in
    let next = length_push c.loop-cell.yielded (c.in-Some.cell, c.in-Some.locator) in (
      c.loop-cell.invariant.0 ∙ sym (ap (annihilator_below A locators cells) next ∙ annihilator_noted cells A locators j noted),
      c.loop-cell.invariant.1 ∙ sym (ap (λ i. length (blanks_below cells i)) (next ∙ add-one j) ∙ ap length (noted_more cells j noted)),
    )

pub returns : goal.returns
returns g c =
    let cells = c.args.cells.now in
    let A = (g.F.Field.meaning c.args.field.now).arithmetic in
    let end = zip_end cells c.args.locators.now c.loop-cell.yielded c.into_iter-cell-iterator.result c.loop-cell.cell-iterator c.next.new.self c.next.result (cc) (cc) c.loop-cell.yielded_by c.in-None.is c.next.ensures.steps in
    let whole : length c.loop-cell.yielded ≡ length cells = omega (arith, end, c.requires.as_long) in
    record {
      product = c.loop-cell.invariant.0 ∙ ap (annihilator_below A c.args.locators.now cells) whole;
      power = c.loop-cell.invariant.1 ∙ ap (λ i. length (blanks_below cells i)) whole ∙ length_blank_places cells;
    }
