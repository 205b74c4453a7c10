use Rattle.std.proofs.Common.{◌≡◌, ℕ, List, ◌++◌, string_bytes}
use Rattle.vectors.specs.Spaced.{spaced_from, spaced_text}
use Rattle.vectors.proofs.spaced.spaced.Given as goal

-- whatever follows, what is put so far stands for the characters so far
abbrev pub invariant-loop-c : goal.invariant-loop-c
invariant-loop-c l = (rest : List ℕ) → string_bytes l.text ++ spaced_from l.before rest ≡ spaced_text l.marks (l.yielded ++ rest)
