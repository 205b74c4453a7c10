use Rattle.std.proofs.Common.{rules}
use Rattle.fields.specs.ListedPrimes.{listed_small}
use Rattle.fields.proofs.prime_field.PrimeFieldField.sub.Goals as goal

pub overflow_add-result : goal.overflow_add-result
overflow_add-result c = let small = listed_small c.args.self.now.prime c.args.self.now.listed in search rules
