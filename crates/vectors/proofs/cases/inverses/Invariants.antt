use Rattle.std.proofs.Common.{◌≡◌, ◌++◌, codes, flat_map, string_bytes}
use Rattle.std.specs.List.{range_with_len}
use Rattle.vectors.specs.InverseText.{inverse_text}
use Rattle.vectors.proofs.cases.inverses.Given as goal

-- the inverses so far
abbrev pub invariant-loop-a : goal.invariant-loop-a
invariant-loop-a g l = string_bytes l.out ≡ codes "inverses" ++ flat_map (λ a. inverse_text ((g.F.Field.meaning l.field).inverse a)) (range_with_len 0 l.a)
