use Rattle.std.proofs.Common.{◌≡◌, ℕ, zero, suc, ◌+◌, [], ◌∷◌, ◌++◌, length, ap, sym, ◌∙◌, add-zero, arith}
use Rattle.std.specs.List.{range_with_len}
use Rattle.std.proofs.lemmas.List.FromFn.{length-range_with_len}
use Rattle.codes.proofs.house.cards.counting_from.Goals as goal

pub push-requires : goal.push-requires
push-requires c = omega (arith, length-range_with_len c.args.first c.loop-j.j, ap length c.loop-j.invariant, c.loop-j-test.true, c.requires.few)

-- the number after the last
next : (a n : ℕ) → range_with_len a (suc n) ≡ range_with_len a n ++ (a + n) ∷ []
next a zero = ap (λ x. x ∷ []) (sym (add-zero a))
next a (suc n) =
    let same : (a + 1) + n ≡ a + suc n = omega arith in
    ap (λ xs. a ∷ xs) (next (a + 1) n ∙ ap (λ x. range_with_len (a + 1) n ++ x ∷ []) same)

pub loop-j-preserved : goal.loop-j-preserved
loop-j-preserved c =
    let a = c.args.first in
    let j = c.loop-j.j in
    let longer : suc j ≡ j + 1 = omega arith in
    c.push.ensures.items ∙ ap (λ xs. xs ++ (a + j) ∷ []) c.loop-j.invariant ∙ sym (next a j) ∙ ap (range_with_len a) longer
