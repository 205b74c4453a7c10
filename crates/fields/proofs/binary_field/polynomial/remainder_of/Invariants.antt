use Rattle.std.proofs.Common.{◌≡◌}
use Rattle.fields.specs.LongDivision.{remainder}
use Rattle.fields.proofs.binary_field.polynomial.remainder_of.Given as goal

abbrev pub invariant-loop-rest : goal.invariant-loop-rest
invariant-loop-rest l = remainder l.divisor l.degree l.rest ≡ remainder l.divisor l.degree l.a

abbrev pub decreases-loop-rest : goal.decreases-loop-rest
decreases-loop-rest l = l.rest
