use Rattle.std.proofs.Common.{ℕ, Ok, Err, Result, sym, refl, subst, lit≤, rules}
use Rattle.kimzhadyr.specs.Meaning.{with_inverses}
use Rattle.outside.specs.four_field.FourElements.{four_elements, four_meaning}
use Rattle.outside.specs.declared.four_field.FourField.{FourField}
use Rattle.outside.specs.four_field.FourLaws.{alphabet_of, two_or_four}
use Rattle.kimzhadyr.specs.Code.{Code}
use Rattle.kimzhadyr.specs.types.Field.{Ghosts}
use Rattle.kimzhadyr.specs.Checked.{Shape, Checked}
use Rattle.kimzhadyr.specs.Cards.{CardMade}
use Rattle.kimzhadyr.specs.types.Card.{Card}
use Rattle.kimzhadyr.specs.types.CardCause.{CardCause}
use Rattle.kimzhadyr.specs.types.CardCause.TheVariants.{BadShape, NoAlphabet, BadLocator, BadMultiplier}
use Rattle.kimzhadyr.specs.CountedLists.{counting_fit, ones_fit}
use Rattle.outside.specs.FourCards.{four_code, FourCardMade}
use Rattle.outside.proofs.cards.four_card.Goals as goal

shape : (letters : ℕ) → Shape (four_code letters)
shape letters = search rules

made : {g : Ghosts FourField} (field : FourField) (letters : ℕ) (r : Result (Card FourField g) CardCause) → CardMade (four_meaning field) field (four_code letters) r → FourCardMade letters r
made field letters (Ok card) (same, values, checked) =
    (two_or_four letters checked.alphabet, values, subst (λ (code : Code). Checked (with_inverses four_elements) code) (sym values) checked)
made field letters (Err BadShape) bad = absurd (bad.1 (shape letters))
made field letters (Err NoAlphabet) bad = (λ is. bad.2 (alphabet_of letters is), refl)
made field letters (Err BadLocator) bad = absurd (bad.3 (counting_fit four_elements 0 4 (lit≤ tt)))
made field letters (Err BadMultiplier) bad = absurd (bad.4 (ones_fit four_elements 4 (lit≤ tt)))

pub returns : goal.returns
returns c = made (record {}) c.args.letters c.check.result (search rules)
