use Rattle.std.proofs.Common.{refl}
use Rattle.minimal_pairs.specs.Poly.{up_to}
use Rattle.minimal_pairs.specs.MinimalPair.{state_after}
use Rattle.minimal_pairs.proofs.minimal_pair.worked_pairs.Goals as goal

pub returns : goal.returns
unfolding state_after up_to
returns c = record { modulo_seven = (refl, refl, refl); empty = λ A. (refl, refl, refl) }
