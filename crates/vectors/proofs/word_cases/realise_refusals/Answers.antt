use Rattle.std.proofs.Common.{[], ◌∷◌, refl, arith}
use Rattle.std.specs.Prelude.{Contains}
use Rattle.minimal_pairs.specs.declared.minimal_pair.RealiseRefusal.{RealiseRefusal}
use Rattle.minimal_pairs.specs.declared.minimal_pair.RealiseRefusal.TheVariants.{WrongLength, NoElement}
use Rattle.vectors.proofs.word_cases.realise_refusals.Goals as goal

every : (value : RealiseRefusal) → Contains (WrongLength ∷ NoElement ∷ []) value
every WrongLength = (0, omega arith, refl)
every NoElement = (1, omega arith, refl)

pub returns : goal.returns
returns c = every
