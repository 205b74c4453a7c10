use Rattle.std.proofs.Common.{◌≡◌, ℕ, ◌<◌, ◌≤◌}
use Rattle.fields.specs.LongDivision.{Degree, remainder}
use Rattle.fields.proofs.binary_field.irreducible.is_irreducible.Given as goal

-- no divisor so far was a factor
abbrev pub invariant-loop-divisor : goal.invariant-loop-divisor
invariant-loop-divisor l = (d k : ℕ) → 2 ≤ d → d < l.divisor → Degree d k → remainder d k l.f ≡ 0 → ⊥
