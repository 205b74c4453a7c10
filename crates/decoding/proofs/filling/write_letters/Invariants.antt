use Rattle.std.proofs.Common.{◌≡◌, ℕ, ◌<◌, get_or}
use Rattle.codes.specs.Code.{code_of}
use Rattle.decoding.specs.filling.Fillings.{filled_letter}
use Rattle.decoding.proofs.filling.write_letters.Given as goal

-- the letters of the cells so far
abbrev pub invariant-loop-j : goal.invariant-loop-j
invariant-loop-j g l =
    (k : ℕ) → k < l.j → get_or l.word k 0 ≡ filled_letter (g.F.Field.meaning l.over.field.now) (code_of l.over.code) l.cells l.sums k
