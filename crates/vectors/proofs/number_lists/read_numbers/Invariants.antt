use Rattle.std.proofs.Common.{◌≡◌, map, filter, length, nat_lt}
use Rattle.vectors.specs.Parts.{number_of}
use Rattle.vectors.proofs.number_lists.read_numbers.Given as goal

-- the numbers of the words so far
abbrev pub invariant-loop-word : goal.invariant-loop-word
invariant-loop-word l = l.numbers.items ≡ map number_of (filter (λ word. nat_lt 0 (length word)) (map (λ piece. piece.now) l.yielded))
