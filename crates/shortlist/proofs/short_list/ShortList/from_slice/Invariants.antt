use Rattle.std.proofs.Common.{◌≡◌, take}
use Rattle.shortlist.proofs.short_list.ShortList.from_slice.Given as goal

-- the numbers so far
abbrev pub invariant-loop-number : goal.invariant-loop-number
invariant-loop-number g l = l.list ≡ take l.number-index l.numbers
