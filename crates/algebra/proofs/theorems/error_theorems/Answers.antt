use Rattle.algebra.proofs.Decoding as decoding
use Rattle.algebra.proofs.theorems.error_theorems.Goals as goal

pub returns : goal.returns
returns c = record {
  few_roots = λ m laws. decoding.few_roots laws;
  locator_fits = λ m laws. decoding.locator_fits laws;
  error_locator = λ m laws. decoding.error_locator laws;
  error_roots = λ m laws. decoding.error_roots laws;
  completeness = λ m laws. decoding.completeness laws;
  only_near = λ m laws. decoding.only_near laws;
}
