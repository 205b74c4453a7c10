use Rattle.std.proofs.Common.{◌≡◌, ℕ, ◌<◌, ◌≤◌, get_or}
use Rattle.algebra.specs.Power.{times_power}
use Rattle.codes.proofs.syndromes.add_powers.Given as goal

-- the rows below the index have their part, and the others are as they were
abbrev pub invariant-loop-sum : goal.invariant-loop-sum
invariant-loop-sum g l =
    let A = (g.F.Field.meaning l.field).arithmetic in
    (l.term ≡ times_power A l.x l.locator l.sum-index)
    × ((k : ℕ) → k < l.sum-index → get_or l.sums k 0 ≡ A.plus (get_or l.initial.sums k 0) (times_power A l.x l.locator k))
    × ((k : ℕ) → l.sum-index ≤ k → get_or l.sums k 0 ≡ get_or l.initial.sums k 0)
