use Rattle.std.proofs.Common.{◌≡◌, ℕ, ◌<◌, length, get_or}
use Rattle.codes.specs.Code.{code_of}
use Rattle.codes.specs.Sums.{sum_to}
use Rattle.codes.proofs.over.CodeOver.sums.Given as goal

-- every row has the sum over the cells so far
abbrev pub invariant-loop-j : goal.invariant-loop-j
invariant-loop-j g l = (k : ℕ) → k < length l.sums → get_or l.sums k 0 ≡ sum_to (g.F.Field.meaning l.self.field.now).arithmetic (code_of l.code) l.cells k l.j
