use Rattle.codes.specs.Cards.{card_code}
use Rattle.decoding.proofs.filling_lemmas.FilledWords.{filling_laws}
use Rattle.decoding.proofs.filling.fill.Goals as goal

pub returns-then-cells-n-clause-laws : goal.returns-then-cells-n-clause-laws
returns-then-cells-n-clause-laws g c = let card = c.args.card.now in filling_laws _ (card_code card) card.checked

pub returns-then-count_blanks-rows-clause-laws : goal.returns-then-count_blanks-rows-clause-laws
returns-then-count_blanks-rows-clause-laws g c = let card = c.args.card.now in filling_laws _ (card_code card) card.checked

pub returns-clause-laws : goal.returns-clause-laws
returns-clause-laws g c = let card = c.args.card.now in filling_laws _ (card_code card) card.checked
