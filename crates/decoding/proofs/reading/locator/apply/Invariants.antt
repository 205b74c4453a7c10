use Rattle.std.proofs.Common.{◌≡◌, ◌+◌, ◌-◌, length, drop}
use Rattle.algebra.specs.Polynomial.{act}
use Rattle.decoding.specs.filling.Fillings.{number_at}
use Rattle.decoding.specs.filling.Polynomials.{coefficients_of}
use Rattle.decoding.proofs.reading.locator.apply.Given as goal

-- the sum over the highest coefficients, as many as were taken
abbrev pub invariant-loop-coefficient : goal.invariant-loop-coefficient
invariant-loop-coefficient g l =
    let P = coefficients_of l.product in
    let left = length P - length l.yielded in
    l.total ≡ act (g.F.Field.meaning l.field).arithmetic (drop left P) (number_at l.sums) (0 + left)
