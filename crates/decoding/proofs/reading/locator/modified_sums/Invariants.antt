use Rattle.std.proofs.Common.{◌≡◌, ℕ, ◌<◌, get_or}
use Rattle.algebra.specs.Polynomial.{act}
use Rattle.decoding.specs.filling.Fillings.{number_at}
use Rattle.decoding.specs.filling.Polynomials.{coefficients_of}
use Rattle.decoding.proofs.reading.locator.modified_sums.Given as goal

abbrev pub invariant-loop-k : goal.invariant-loop-k
invariant-loop-k g l = (k : ℕ) → k < l.k → get_or l.modified k 0 ≡ act (g.F.Field.meaning l.field).arithmetic (coefficients_of l.product) (number_at l.sums) k
