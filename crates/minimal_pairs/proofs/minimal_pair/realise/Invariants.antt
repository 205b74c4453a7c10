use Rattle.std.proofs.Common.{◌≡◌}
use Rattle.minimal_pairs.specs.MinimalPair.{state_after}
use Rattle.minimal_pairs.proofs.minimal_pair.realise.Given as goal

-- the state is the algorithm's
abbrev pub invariant-loop-i : goal.invariant-loop-i
invariant-loop-i g l = l.state ≡ state_after (g.F.Field.meaning l.field).arithmetic l.sequence l.i
