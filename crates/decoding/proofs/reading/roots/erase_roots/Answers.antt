use Rattle.std.proofs.Common.{◌≡◌, ℕ, ◌+◌, List, length, get_or, set, sym, ap, ◌∙◌, subst, subst₂, ap₂, arith}
use Rattle.std.proofs.lemmas.List.{set-get_or}
use Rattle.std.proofs.lemmas.List.FromFn.{fill_by_all}
use Rattle.std.proofs.lemmas.Bool.{eq-eqb, ne_eqb}
use Rattle.algebra.specs.Meaning.{Arithmetic}
use Rattle.algebra.specs.Polynomial.{negate, evaluate}
use Rattle.algebra.specs.Power.{times_power}
use Rattle.codes.specs.Code.{Code}
use Rattle.codes.specs.Cards.{card_code}
use Rattle.codes.specs.Cells.{blank_cell}
use Rattle.codes.specs.Sums.{syndrome}
use Rattle.codes.specs.declared.cell.Cell.{Cell}
use Rattle.codes.proofs.CellParts.{syndrome_set_blank}
use Rattle.codes.proofs.Codewords.{length_syndromes}
use Rattle.decoding.specs.reading.Erasing.{erased_cell, erased}
use Rattle.decoding.proofs.reading_lemmas.ErasingSteps.{ChangedTo, SumsOf, changed_none, changed_keep, changed_set, sums_rows, sums_all, sums_more, erased_root, erased_other, erased_blank}
use Rattle.decoding.proofs.reading.roots.erase_roots.Goals as goal
use Rattle.decoding.proofs.reading.roots.erase_roots.Goals.{in-Some+then-value_at-eq0, in-Some+else-value_at-eq0, in_default}

pub loop-j-init : goal.loop-j-init
loop-j-init g c =
    let card = c.args.card.now in
    let A = (g.F.Field.meaning card.field).arithmetic in (
      changed_none (erased_cell A c.args.polynomial.now card.locators.items c.args.cells.now) c.args.cells.now,
      sums_rows A (card_code card) c.args.cells.now c.args.sums.now c.requires.summed,
    )

pub loop-j-preserved : goal.loop-j-preserved
loop-j-preserved g c =
    let card = c.args.card.now in
    let field = c.field-field.ensures in
    let same = c.code-code.ensures in
    let B = (g.F.Field.meaning c.field-field.result.now).arithmetic in
    let A = (g.F.Field.meaning card.field).arithmetic in
    let B-is : B ≡ A = ap (λ f. (g.F.Field.meaning f).arithmetic) field in
    let code = card_code card in
    let before = c.args.cells.now in
    let cells = c.loop-j.cells in
    let sums = c.loop-j.sums in
    let j = c.loop-j.j in
    let p = c.args.polynomial.now in
    let f = erased_cell A p code.locators before in
    let (changed, summed) = c.loop-j.invariant in
    let here : get_or cells j blank_cell ≡ get_or before j blank_cell = changed.above j (omega arith) in
    let a = get_or code.locators j 0 in
    let b = get_or c.code-code.result.locators.now j 0 in
    let b-is : b ≡ a = ap (λ (x : Code). get_or x.locators j 0) same in
    let value : evaluate B p b ≡ evaluate A p a = ap₂ (λ (A : Arithmetic) a. evaluate A p a) B-is b-is in
    let put_back : set cells j (get_or cells j blank_cell) ≡ cells = set-get_or cells j blank_cell in
    elim c.match-cell.branch [
      | in-Some+then-value_at-eq0 w ↦
          (let gone = erased_root A p code.locators before j (eq-eqb _ 0 (sym (w.value_at.ensures ∙ value) ∙ w.if-value_at-eq0.true)) in
          let blanked : c.match-cell.cells ≡ set cells j blank_cell = w.cells-is ∙ ap (set cells j) w.blank.ensures in
          let x = negate A (A.times w.in-Some.letter (get_or code.multipliers j 0)) in
          let weighted = w.mul-weighted.ensures
          ∙ ap₂ (λ (A : Arithmetic) (c : Code). A.times w.in-Some.letter (get_or c.multipliers j 0)) B-is same in
          let x-is : w.sub.result ≡ x = w.sub.ensures ∙ ap₂ (λ (A : Arithmetic) y. negate A y) B-is weighted in (
            subst (λ (l : List Cell). ChangedTo f before l (j + 1)) (sym (blanked ∙ ap (set cells j) (sym gone))) (changed_set f before cells j (omega arith) changed),
            sums_more A code cells c.match-cell.cells sums c.match-cell.sums x a summed c.match-cell.auto.sums
                (λ k h. ap (λ (l : List ℕ). get_or l k 0) w.sums-is ∙ w.add_powers.ensures k (omega (arith, ap length w.sums-is))
                ∙ ap (λ (A : Arithmetic). A.plus (get_or sums k 0) (times_power A w.sub.result b k)) B-is
                ∙ ap₂ (λ x a. A.plus (get_or sums k 0) (times_power A x a k)) x-is b-is)
                (λ k. ap (λ (l : List Cell). syndrome A code l k) blanked
                ∙ syndrome_set_blank card.checked.laws.total card.checked.laws.ring code cells j w.in-Some.letter k (omega arith) w.in-Some.is (card.checked.locators.element j (omega (arith, c.requires.long)))),
          ))
      | in-Some+else-value_at-eq0 w ↦
          (let stays = sym (erased_other A p code.locators before j (ne_eqb _ 0 (λ e. w.if-value_at-eq0.false (w.value_at.ensures ∙ value ∙ e)))) in (
            subst (λ (l : List Cell). ChangedTo f before l (j + 1)) (sym (w.cells-is ∙ put_back)) (changed_keep f before cells j changed stays),
            subst₂ (SumsOf A code) (sym (w.cells-is ∙ put_back)) (sym w.sums-is) summed,
          ))
      | in_default w ↦
          (let stays = erased_blank A p code.locators before j (ap (λ (x : Cell). x.letter) (sym here) ∙ w.in_default.is) in (
            subst (λ (l : List Cell). ChangedTo f before l (j + 1)) (sym (w.cells-is ∙ put_back)) (changed_keep f before cells j changed stays),
            subst₂ (SumsOf A code) (sym (w.cells-is ∙ put_back)) (sym w.sums-is) summed,
          ))
    ]

pub returns : goal.returns
unfolding erased
returns g c =
    let card = c.args.card.now in
    let A = (g.F.Field.meaning card.field).arithmetic in
    let code = card_code card in
    let before = c.args.cells.now in
    let (changed, summed) = c.loop-j.invariant in
    record {
      cells = fill_by_all (erased_cell A c.args.polynomial.now code.locators before) c.loop-j.cells (length before) blank_cell (omega arith) (λ i h. changed.below i (omega arith));
      sums = sums_all A code c.loop-j.cells c.loop-j.sums (omega (arith, ap length c.requires.summed, length_syndromes A code before)) summed;
    }
