use Rattle.std.proofs.Common.{◌≡◌, flat_map}
use Rattle.std.specs.List.{range_with_len}
use Rattle.vectors.specs.ReadAnswers.{note_at}
use Rattle.vectors.proofs.cases.note_calls.Given as goal

-- the notes so far
abbrev pub invariant-loop-j : goal.invariant-loop-j
invariant-loop-j l = l.calls.items ≡ flat_map (note_at l.cell-items) (range_with_len 0 l.j)
