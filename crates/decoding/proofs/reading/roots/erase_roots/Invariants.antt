use Rattle.codes.specs.Cards.{card_code}
use Rattle.decoding.specs.reading.Erasing.{erased_cell}
use Rattle.decoding.proofs.reading_lemmas.ErasingSteps.{ChangedTo, SumsOf}
use Rattle.decoding.proofs.reading.roots.erase_roots.Given as goal

-- the cells below j are erased where they have to be, and the sums are those of the cells
abbrev pub invariant-loop-j : goal.invariant-loop-j
invariant-loop-j g l =
    let A = (g.F.Field.meaning l.card.field).arithmetic in
    ChangedTo (erased_cell A l.polynomial (card_code l.card).locators l.initial.cells) l.initial.cells l.cells l.j
    × SumsOf A (card_code l.card) l.cells l.sums
