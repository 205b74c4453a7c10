use Rattle.std.proofs.Common.{refl}
use Rattle.minimal_pairs.specs.Poly.{up_to}
use Rattle.minimal_pairs.proofs.poly.Poly.constant.Goals as goal

pub returns : goal.returns
unfolding up_to
returns c = refl
