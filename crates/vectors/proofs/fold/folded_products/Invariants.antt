use Rattle.std.proofs.Common.{◌≡◌, ◌<◌}
use Rattle.vectors.specs.Fold.{folded}
use Rattle.vectors.proofs.fold.folded_products.Given as goal

-- the number for the elements so far
abbrev pub invariant-loop-b : goal.invariant-loop-b
invariant-loop-b g l = (l.so_far ≡ folded (g.F.Field.meaning l.field).arithmetic l.a l.b) × (l.so_far < 65521)
