use Rattle.std.proofs.Common.{ℕ, ◌+◌, ◌*◌}
use Rattle.fields.specs.LongDivision.{Degree}
use Rattle.fields.proofs.PolynomialEuclid.{Euclid}
use Rattle.fields.proofs.binary_field.euclid.inverse.Given as goal

abbrev pub invariant-loop-v : goal.invariant-loop-v
invariant-loop-v l = (k : ℕ) → Degree l.f k → Euclid l.f k l.a l.u l.v l.g l.h

abbrev pub decreases-loop-v : goal.decreases-loop-v
decreases-loop-v l = l.u + 2 * l.v
