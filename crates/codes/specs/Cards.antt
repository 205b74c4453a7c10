-- Checked code cards.
use Rattle.std.specs.Prelude.{◌≡◌, ℕ, Ok, Err, Result}
use Rattle.algebra.specs.Meaning.{Arithmetic, Meaning}
use Rattle.algebra.specs.Alphabet.{Alphabet}
use Rattle.fields.specs.declared.field.Field.{Ghosts}
use Rattle.codes.specs.Code.{Code, code_with}
use Rattle.codes.specs.Checked.{Checked, Shape, LocatorsFit, MultipliersFit}
use Rattle.codes.specs.declared.card.Card.{Card}
use Rattle.codes.specs.declared.card_cause.CardCause.{CardCause}
use Rattle.codes.specs.declared.card_cause.CardCause.TheVariants.{BadShape, NoAlphabet, BadLocator, BadMultiplier}

-- the values of a card
abbrev pub card_code : {F : Type 0} {g : Ghosts F} → Card F g → Code
card_code card = code_with card.letters card.rows card.locators.items card.multipliers.items

-- the arithmetic of a card's field
abbrev pub card_arithmetic : {F : Type 0} {g : Ghosts F} → Card F g → Arithmetic
card_arithmetic {F} {g} card = (g.meaning card.field).arithmetic

abbrev pub card_number : CardCause → ℕ
card_number BadShape = 13
card_number NoAlphabet = 14
card_number BadLocator = 15
card_number BadMultiplier = 16

-- The first rule that the values break, in this order: 13 for the shape, 14 for the alphabet, 15
-- for the locators, 16 for the multipliers.
abbrev pub CardRefused : Meaning → Code → CardCause → Type 0
CardRefused m code BadShape = (card_number BadShape ≡ 13) × (Shape code → ⊥)
CardRefused m code NoAlphabet =
    (card_number NoAlphabet ≡ 14) × Shape code × (Alphabet m.arithmetic code.letters → ⊥)
CardRefused m code BadLocator =
    (card_number BadLocator ≡ 15)
    × Shape code × Alphabet m.arithmetic code.letters × (LocatorsFit m code.locators → ⊥)
CardRefused m code BadMultiplier =
    (card_number BadMultiplier ≡ 16)
    × Shape code × Alphabet m.arithmetic code.letters × LocatorsFit m code.locators
    × (MultipliersFit m code.multipliers → ⊥)

-- A granted card holds exactly what was given and is checked; else the first broken rule is
-- answered.
abbrev pub CardMade : {F : Type 0} {g : Ghosts F} → Meaning → F → Code
    → Result (Card F g) CardCause → Type 0
CardMade m field code (Ok card) = (card.field ≡ field) × (card_code card ≡ code) × Checked m code
CardMade m field code (Err cause) = CardRefused m code cause
