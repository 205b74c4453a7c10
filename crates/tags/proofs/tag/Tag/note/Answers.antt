use Rattle.std.proofs.Common.{◌-◌, ◌<◌, List, length, take, set, sym, refl, ap, ◌∙◌, subst, ap₂, arith, length-set}
use Rattle.std.specs.Result.{result_ok}
use Rattle.codes.specs.Cells.{noted_cell}
use Rattle.codes.specs.Standings.{Lettered}
use Rattle.codes.specs.declared.cell.Cell.{Cell}
use Rattle.codes.specs.Code.{Code, code_of}
use Rattle.codes.specs.Cards.{card_code}
use Rattle.tags.specs.tag.Sheet.{width}
use Rattle.tags.proofs.tag_lemmas.Lettering.{lettered_changed}
use Rattle.tags.proofs.tag_lemmas.Sheets.{a_cell, a_place, note_accepted, changed_cell}
use Rattle.tags.proofs.tag.Tag.note.Goals as goal

pub invariant_of-self : goal.invariant_of-self
invariant_of-self g c =
    let tag = c.args.self.now in
    let card = tag.card.now in
    let cells = tag.table.cells in
    let cell = c.args.cell in
    let at = a_cell (card_code card) cell c.in_ok-place.place (sym c.place_of.ensures ∙ c.ok_or.ensures.ok_part ∙ ap result_ok c.in_ok-place.was) in
    let changed = c.put.ensures ∙ ap₂ (set cells) at.1 c.noted.ensures in
    let below : c.args.letter < card.letters = omega (arith, ap (λ (d : Code). d.letters) c.code.ensures) in
    record {
      long = ap length changed ∙ length-set _ _ _ ∙ tag.long;
      lettered =
          subst (λ (cells : List Cell). ∥ Lettered card.letters (take (width (card_code card)) cells) ∥₁) (sym changed)
          (lettered_changed card.letters (width (card_code card)) cells (cell - 1) (noted_cell c.args.letter) (a_place (card_code card) cell at.0) below tag.lettered);
    }

pub returns : goal.returns
returns g c =
    let card = c.args.self.now.card.now in
    let code = card_code card in
    let cells = c.args.self.now.table.cells in
    let cell = c.args.cell in
    let at = a_cell code cell c.in_ok-place.place (sym c.place_of.ensures ∙ c.ok_or.ensures.ok_part ∙ ap result_ok c.in_ok-place.was) in
    let accepted = note_accepted code cell (code_of c.code.result) c.args.letter c.code.ensures at.0 c.if-letter-code.false in
    record {
      answer = accepted;
      cells = ap (take (width code)) (c.put.ensures ∙ ap₂ (set cells) at.1 c.noted.ensures) ∙ changed_cell _ (width code) cell cells _ accepted (a_place code cell at.0);
      card = refl;
    }
