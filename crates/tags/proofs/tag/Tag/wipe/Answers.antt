use Rattle.std.proofs.Common.{◌-◌, List, length, take, set, sym, refl, ap, ◌∙◌, subst, ap₂, length-set}
use Rattle.std.specs.Result.{result_ok}
use Rattle.codes.specs.Cells.{blank_cell}
use Rattle.codes.specs.Standings.{Lettered}
use Rattle.codes.specs.declared.cell.Cell.{Cell}
use Rattle.codes.specs.Cards.{card_code}
use Rattle.tags.specs.tag.Sheet.{width}
use Rattle.tags.proofs.tag_lemmas.Lettering.{lettered_changed}
use Rattle.tags.proofs.tag_lemmas.Sheets.{a_cell, a_place, wipe_accepted, changed_cell}
use Rattle.tags.proofs.tag.Tag.wipe.Goals as goal

pub invariant_of-self : goal.invariant_of-self
invariant_of-self g c =
    let tag = c.args.self.now in
    let card = tag.card.now in
    let cells = tag.table.cells in
    let cell = c.args.cell in
    let at = a_cell (card_code card) cell c.in_ok-place.place (sym c.place_of.ensures ∙ c.ok_or.ensures.ok_part ∙ ap result_ok c.in_ok-place.was) in
    let changed = c.put.ensures ∙ ap₂ (set cells) at.1 c.blank.ensures in
    record {
      long = ap length changed ∙ length-set _ _ _ ∙ tag.long;
      lettered =
          subst (λ (cells : List Cell). ∥ Lettered card.letters (take (width (card_code card)) cells) ∥₁) (sym changed)
          (lettered_changed card.letters (width (card_code card)) cells (cell - 1) blank_cell (a_place (card_code card) cell at.0) tt tag.lettered);
    }

pub returns : goal.returns
returns g c =
    let card = c.args.self.now.card.now in
    let code = card_code card in
    let cells = c.args.self.now.table.cells in
    let cell = c.args.cell in
    let at = a_cell code cell c.in_ok-place.place (sym c.place_of.ensures ∙ c.ok_or.ensures.ok_part ∙ ap result_ok c.in_ok-place.was) in
    let accepted = wipe_accepted code cell at.0 in
    record {
      answer = accepted;
      cells = ap (take (width code)) (c.put.ensures ∙ ap₂ (set cells) at.1 c.blank.ensures) ∙ changed_cell _ (width code) cell cells _ accepted (a_place code cell at.0);
      card = refl;
    }
