use Rattle.std.proofs.Common.{◌≡◌, map, filter, length, nat_lt}
use Rattle.vectors.specs.Parts.{cell_of}
use Rattle.vectors.proofs.number_lists.read_cells.Given as goal

-- the cells of the words so far
abbrev pub invariant-loop-word : goal.invariant-loop-word
invariant-loop-word l = l.cells.items ≡ map cell_of (filter (λ word. nat_lt 0 (length word)) (map (λ piece. piece.now) l.yielded))
