use Rattle.vectors.specs.WorkedSums.{six_code, six_cells}
use Rattle.vectors.proofs.WorkedSums.{six, seven_listed, made, summed}
use Rattle.vectors.proofs.worked.sums_of_six.Goals as goal

pub unwrap-field-requires : goal.unwrap-field-requires
unwrap-field-requires c = made 7 c.new.result seven_listed c.new.ensures

pub returns : goal.returns
returns c = record {
  sums = summed 7 c.new.result c.unwrap-field.result c.new.ensures c.unwrap-field.ensures six_code six_cells _ _ c.sums.result c.unwrap.result c.sums.ensures c.unwrap.ensures;
  value = six;
}
