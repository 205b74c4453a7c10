use Rattle.algebra.proofs.Numbers as numbers
use Rattle.algebra.proofs.theorems.point_theorems.Goals as goal

pub returns : goal.returns
returns c = record {
  annihilator_roots_only = λ m laws. numbers.annihilator_roots_only laws;
  kernel = λ m laws. numbers.kernel laws;
  root_count = λ m laws. numbers.root_count laws;
  interpolation = λ m laws. numbers.interpolation laws;
  surjectivity = λ m laws. numbers.surjectivity laws;
  distance = λ m laws. numbers.distance laws;
  filling_only = λ m laws. numbers.filling_only laws;
  filling_makes = λ m laws. numbers.filling_makes laws;
}
