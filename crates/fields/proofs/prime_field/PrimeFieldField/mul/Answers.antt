use Rattle.std.proofs.Common.{arith}
use Rattle.fields.specs.ListedPrimes.{listed_small}
use Rattle.fields.specs.PrimeModulus.{product_fits}
use Rattle.fields.proofs.prime_field.PrimeFieldField.mul.Goals as goal

pub overflow_mul-result : goal.overflow_mul-result
overflow_mul-result c =
    let small = listed_small c.args.self.now.prime c.args.self.now.listed in
    record { fits = product_fits c.args.a c.args.b c.args.self.now.prime (omega arith) (omega arith) (omega arith) }
