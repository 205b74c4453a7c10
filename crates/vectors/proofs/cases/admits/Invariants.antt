use Rattle.std.proofs.Common.{string_bytes}
use Rattle.vectors.proofs.AlphabetSizes.{SizesTold}
use Rattle.vectors.proofs.cases.admits.Given as goal

-- the sizes so far
abbrev pub invariant-loop-letters : goal.invariant-loop-letters
invariant-loop-letters g l = SizesTold (g.F.Field.meaning l.field).arithmetic l.letters-counter (string_bytes l.out)
