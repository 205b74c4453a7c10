use Rattle.fields.proofs.PolynomialLaws.{carryless_ring, division_law, polynomial_examples}
use Rattle.fields.proofs.binary_field.laws.polynomial_laws.Goals as goal

pub returns : goal.returns
returns c = record { ring = carryless_ring; division = division_law; examples = polynomial_examples }
