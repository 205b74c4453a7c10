use Rattle.std.proofs.Common.{◌≡◌, ◌<◌, ◌≤◌, ℕ, length, get_or}
use Rattle.algebra.specs.Limits.{coefficients}
use Rattle.minimal_pairs.specs.Poly.{coefficient}
use Rattle.minimal_pairs.proofs.poly.Combination.combine.Given as goal

-- the coefficients below the index are made, and the others are as they were
abbrev pub invariant-loop-j : goal.invariant-loop-j
invariant-loop-j g l =
    (length l.p.coeffs ≡ coefficients)
    × ((k : ℕ) → k < l.j → get_or l.p.coeffs k 0 ≡ coefficient (g.F.Field.meaning l.field).arithmetic l.self.a l.initial.p l.self.b l.self.d l.q k)
    × ((k : ℕ) → l.j ≤ k → get_or l.p.coeffs k 0 ≡ get_or l.initial.p.coeffs k 0)
