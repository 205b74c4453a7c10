use Rattle.std.proofs.Common.{◌≡◌, ◌+◌, get_or, length}
use Rattle.algebra.specs.Power.{sum}
use Rattle.minimal_pairs.proofs.minimal_pair.apply.Given as goal

-- the sum of the terms so far
abbrev pub invariant-loop-coefficient : goal.invariant-loop-coefficient
invariant-loop-coefficient g l =
    let A = (g.F.Field.meaning l.field).arithmetic in
    l.sum ≡ sum A (length l.yielded) (λ j. A.times (get_or l.f.coeffs j 0) (get_or l.sequence (l.k + j) 0))
