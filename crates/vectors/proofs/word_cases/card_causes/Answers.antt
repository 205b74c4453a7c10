use Rattle.std.proofs.Common.{[], ◌∷◌, refl, arith}
use Rattle.std.specs.Prelude.{Contains}
use Rattle.codes.specs.declared.card_cause.CardCause.{CardCause}
use Rattle.codes.specs.declared.card_cause.CardCause.TheVariants.{BadShape, NoAlphabet, BadLocator, BadMultiplier}
use Rattle.vectors.proofs.word_cases.card_causes.Goals as goal

every : (value : CardCause) → Contains (BadShape ∷ NoAlphabet ∷ BadLocator ∷ BadMultiplier ∷ []) value
every BadShape = (0, omega arith, refl)
every NoAlphabet = (1, omega arith, refl)
every BadLocator = (2, omega arith, refl)
every BadMultiplier = (3, omega arith, refl)

pub returns : goal.returns
returns c = every
