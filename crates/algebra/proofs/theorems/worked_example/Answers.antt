use Rattle.std.proofs.Common.{refl}
use Rattle.algebra.proofs.theorems.worked_example.Goals as goal

pub returns : goal.returns
returns c = record {
  annihilator_of_two = refl;
  its_quotient = refl;
  its_value = refl;
  a_third = refl;
  first_sum = refl;
  second_sum = refl;
  letter_0 = refl;
  letter_1 = refl;
  one_error = refl;
  its_place = refl;
  it_fits = refl;
}
