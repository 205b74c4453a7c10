use Rattle.std.proofs.Common.{ℕ, List, Some, sym, ◌∙◌, subst}
use Rattle.codes.specs.Cards.{card_code}
use Rattle.decoding.specs.reading.Decoding.{Decoded}
use Rattle.decoding.proofs.reading_lemmas.NearWords.{near_only}
use Rattle.decoding.proofs.reading_lemmas.OneReading.{one_reading}
use Rattle.decoding.proofs.reading.read_cells.Goals as goal

pub returns-clause-outcome : goal.returns-clause-outcome
returns-clause-outcome g c =
    let card = c.args.card.now in
    let m = g.F.Field.meaning card.field in
    let code = card_code card in
    let cells = c.args.cells.now in
    let decoded : Decoded m.arithmetic code cells c.copy_from_slice.new.self (Some c.in-Some.wrong) =
    subst (λ (word : List ℕ). Decoded m.arithmetic code cells word (Some c.in-Some.wrong)) (sym c.copy_from_slice.ensures.after) c.in-Some.ensures in
    (c.if-word-cells.false ∙ c.cells.ensures, decoded.0, (λ word near. near_only m code card.checked cells c.requires.long c.requires.lettered word _ near decoded.0), decoded.1, c.count_blanks-blank.ensures)

pub returns-then-word-cells-clause-one : goal.returns-then-word-cells-clause-one
returns-then-word-cells-clause-one g c = one_reading

pub returns-then-blank-code-clause-one : goal.returns-then-blank-code-clause-one
returns-then-blank-code-clause-one g c = one_reading

pub returns-in_default-clause-one : goal.returns-in_default-clause-one
returns-in_default-clause-one g c = one_reading

pub returns-clause-one : goal.returns-clause-one
returns-clause-one g c = one_reading
