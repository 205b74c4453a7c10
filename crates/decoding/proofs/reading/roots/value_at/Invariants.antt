use Rattle.std.proofs.Common.{◌≡◌, ◌-◌, length, drop}
use Rattle.algebra.specs.Polynomial.{evaluate}
use Rattle.decoding.proofs.reading.roots.value_at.Given as goal

-- the value of the highest coefficients, as many as were taken
abbrev pub invariant-loop-coefficient : goal.invariant-loop-coefficient
invariant-loop-coefficient g l =
    l.value ≡ evaluate (g.F.Field.meaning l.field).arithmetic (drop (length l.polynomial - length l.yielded) l.polynomial) l.point
