use Rattle.std.proofs.Common.{◌≡◌, ℕ, ◌<◌, get_or}
use Rattle.codes.proofs.card.distinct_elements.Given as goal

abbrev pub invariant-loop-j : goal.invariant-loop-j
invariant-loop-j g l =
    ((i : ℕ) → i < l.j → get_or l.locators i 0 < l.size)
    × ((i k : ℕ) → i < l.j → k < l.j → get_or l.locators i 0 ≡ get_or l.locators k 0 → i ≡ k)
