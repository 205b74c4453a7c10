use Rattle.bench.proofs.FivesTold.{FivesTold}
use Rattle.bench.proofs.engraved.data_letters.Given as goal

-- the letters so far
abbrev pub invariant-loop-j : goal.invariant-loop-j
invariant-loop-j l = FivesTold l.letters l.j
