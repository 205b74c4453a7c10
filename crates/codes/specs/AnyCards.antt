-- The values of a card over either kind of field.
use Rattle.algebra.specs.Meaning.{Arithmetic}
use Rattle.codes.specs.Code.{Code}
use Rattle.codes.specs.Cards.{card_arithmetic, card_code}
use Rattle.codes.specs.declared.any_card.AnyCard.{AnyCard}
use Rattle.codes.specs.declared.any_card.AnyCard.TheVariants.{Prime, Binary}

abbrev pub any_code : AnyCard → Code
any_code (Prime card) = card_code card
any_code (Binary card) = card_code card

-- the arithmetic of the card's field
abbrev pub any_arithmetic : AnyCard → Arithmetic
any_arithmetic (Prime card) = card_arithmetic card
any_arithmetic (Binary card) = card_arithmetic card
