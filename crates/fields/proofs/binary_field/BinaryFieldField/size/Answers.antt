use Rattle.std.proofs.Common.{arith}
use Rattle.fields.specs.PolynomialDegrees.{degree_below}
use Rattle.fields.proofs.binary_field.BinaryFieldField.size.Goals as goal

pub overflow_shl-result : goal.overflow_shl-result
overflow_shl-result c = let field = c.args.self.now in degree_below field.modulus field.degree 32 field.leading (omega (arith, field.bounded))
