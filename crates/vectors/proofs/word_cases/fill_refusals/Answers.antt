use Rattle.std.proofs.Common.{[], ◌∷◌, refl, arith}
use Rattle.std.specs.Prelude.{Contains}
use Rattle.decoding.specs.declared.filling.fill_refusal.FillRefusal.{FillRefusal}
use Rattle.decoding.specs.declared.filling.fill_refusal.FillRefusal.TheVariants.{WrongLength, TooBlank}
use Rattle.vectors.proofs.word_cases.fill_refusals.Goals as goal

every : (value : FillRefusal) → Contains (WrongLength ∷ TooBlank ∷ []) value
every WrongLength = (0, omega arith, refl)
every TooBlank = (1, omega arith, refl)

pub returns : goal.returns
returns c = every
