use Rattle.std.proofs.Common.{◌≡◌, ◌++◌, length, drop}
use Rattle.algebra.specs.Polynomial.{plus_linear}
use Rattle.decoding.specs.filling.Polynomials.{coefficients_of}
use Rattle.decoding.proofs.filling.polynomial.Polynomial.times_linear.Given as goal

-- the product's coefficients so far, followed by those that are left, are all of its coefficients
abbrev pub invariant-loop-coefficient : goal.invariant-loop-coefficient
invariant-loop-coefficient g l =
    let A = (g.F.Field.meaning l.field).arithmetic in
    let P = coefficients_of l.fn.self in
    let k = l.coefficient-index in
    (l.coefficients ++ plus_linear A l.below l.point (drop k P) ≡ plus_linear A 0 l.point P)
    × (length l.coefficients ≡ k)
