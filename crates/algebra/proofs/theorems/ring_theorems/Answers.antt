use Rattle.algebra.proofs.Numbers as numbers
use Rattle.algebra.proofs.theorems.ring_theorems.Goals as goal

pub returns : goal.returns
returns c = record {
  times_power = λ ring t r. numbers.times_power_is ring t r;
  reordering = λ ring t r. numbers.reordering ring t r;
  word_reordering = λ ring t r. numbers.word_reordering ring t r;
  division = λ ring t r. numbers.division ring t r;
  annihilator_monic = λ ring t r. numbers.annihilator_monic ring t r;
  annihilator_roots = λ ring t r. numbers.annihilator_roots ring t r;
  cofactor = λ ring t r. numbers.cofactor_is ring t r;
}
