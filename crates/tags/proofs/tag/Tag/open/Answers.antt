use Rattle.std.proofs.Common.{length, take, replicate, sym, refl, ap, ◌∙◌, subst}
use Rattle.std.proofs.lemmas.List.{take-replicate}
use Rattle.codes.specs.Cells.{blank_cell}
use Rattle.codes.specs.Standings.{Lettered}
use Rattle.codes.specs.declared.cell.Cell.{Cell}
use Rattle.tags.proofs.tag_lemmas.Lettering.{lettered_blank}
use Rattle.tags.proofs.tag.Tag.open.Goals as goal

pub invariant_of-result : goal.invariant_of-result
invariant_of-result g c =
    let card = c.args.card.now in
    let n = length card.locators.items in
    let blank = ap (λ (x : Cell). take n (replicate 256 x)) c.blank.ensures ∙ take-replicate n 256 blank_cell card.checked.shape.sizes.most_cells in
    record { long = refl; lettered = ∣ subst (Lettered card.letters) (sym blank) (lettered_blank card.letters n) ∣₁ }

pub returns : goal.returns
returns g c =
    let card = c.args.card.now in
    let n = length card.locators.items in
    record { same = refl; blank = ap (λ (x : Cell). take n (replicate 256 x)) c.blank.ensures ∙ take-replicate n 256 blank_cell card.checked.shape.sizes.most_cells }
