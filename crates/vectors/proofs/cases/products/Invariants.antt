use Rattle.std.proofs.Common.{◌≡◌, ◌++◌, codes, flat_map, string_bytes}
use Rattle.std.specs.List.{range_with_len}
use Rattle.codes.specs.WordText.{letter_text}
use Rattle.vectors.specs.Fold.{folded}
use Rattle.vectors.proofs.cases.products.Given as goal

-- the products so far
abbrev pub invariant-loop-a : goal.invariant-loop-a
invariant-loop-a g l =
    let A = (g.F.Field.meaning l.field).arithmetic in
    string_bytes l.out ≡ codes "products" ++ flat_map (λ a. letter_text (folded A a A.size)) (range_with_len 0 l.a)
