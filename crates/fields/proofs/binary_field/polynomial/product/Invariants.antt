use Rattle.std.proofs.Common.{◌≡◌, ◌/◌, ◌^◌}
use Rattle.fields.specs.CarrylessProduct.{◌⊗◌}
use Rattle.fields.specs.LongDivision.{remainder}
use Rattle.fields.proofs.binary_field.polynomial.product.Given as goal

-- `x` is the product of `b` with the coefficients of `a` from place `i` on
abbrev pub invariant-loop-i : goal.invariant-loop-i
invariant-loop-i l = l.x ≡ remainder l.f l.degree ((l.a / 2 ^ l.i) ⊗ l.b)
