use Rattle.std.proofs.Common.{length, sym, ap, ◌∙◌, subst}
use Rattle.codes.specs.Code.{Code, code_of}
use Rattle.codes.specs.Cards.{card_code}
use Rattle.codes.proofs.Codewords.{length_syndromes}
use Rattle.decoding.specs.filling.Fillings.{FillLengths, Agrees}
use Rattle.decoding.proofs.reading_lemmas.Decoding.{filled_agrees}
use Rattle.decoding.proofs.reading.candidate.fill_candidate.Goals as goal

pub write_letters-requires-clause-lengths : goal.write_letters-requires-clause-lengths
write_letters-requires-clause-lengths g c =
    let pre = c.requires in
    let card = c.args.card.now in
    let cells = c.args.cells.now in
    subst (λ (code : Code). FillLengths code cells c.args.sums.now c.args.word.now) (sym c.over.ensures.values) (record {
      lengths = record {
        a_multiplier_each = card.checked.shape.a_multiplier_each;
        a_cell_each = pre.long;
        a_place_each = ap length pre.summed ∙ length_syndromes _ (card_code card) cells;
      };
      a_letter_each = pre.room;
    })

pub add_filled-requires-clause-agrees : goal.add_filled-requires-clause-agrees
add_filled-requires-clause-agrees g c =
    let over = c.over.result in
    let cells = c.args.cells.now in
    subst (Agrees cells) (sym c.write_letters.ensures) (filled_agrees (g.F.Field.meaning over.field.now) (code_of over.code) cells c.args.sums.now)
