use Rattle.std.proofs.Common.{length, sym, ap, ◌∙◌, subst, arith}
use mathlib.Core.Logic.{∥∥₁_elim}
use Rattle.std.proofs.lemmas.List.{length-take-le}
use Rattle.codes.specs.Standings.{Lettered}
use Rattle.decoding.proofs.reading_lemmas.OneReading.{one_reading}
use Rattle.tags.proofs.tag_lemmas.Lettering.{lettered_prop}
use Rattle.tags.proofs.tag.Tag.read.Goals as goal

pub read_cells-requires : goal.read_cells-requires
read_cells-requires g c =
    let tag = c.args.self.now in
    let card = tag.card.now in
    let own = c.cells.ensures in
    let n = length card.locators.items in
    let fits = card.checked.shape.sizes.most_cells in
    let long = tag.long in
    record {
      long = ap length own ∙ length-take-le n tag.table.cells (omega arith);
      lettered = subst (Lettered card.letters) (sym own) (∥∥₁_elim tag.lettered (lettered_prop card.letters _) (λ each. each));
    }

pub returns-clause-one : goal.returns-clause-one
returns-clause-one g c = one_reading
