use Rattle.std.proofs.Common.{rules, ◌≡◌, ◌+◌, ◌-◌, ◌<◌, length, take, drop, get_or, sym, List, ℕ, ap, add-one, ◌∙◌, ap₂, arith}
use Rattle.std.proofs.lemmas.List.{length_push, length-take, get_or-take, get_or-drop, length-drop, take_all}
use Rattle.std.proofs.lemmas.Slice.Zip.{zip_turn}
use Rattle.algebra.specs.Meaning.{Arithmetic}
use Rattle.algebra.specs.Power.{sum}
use Rattle.minimal_pairs.proofs.minimal_pair.apply.Goals as goal

-- one more term of the sum
more : (A : Arithmetic) (cs s : List ℕ) (m k n x y : ℕ) → n < length (take (m + 1) cs) → x ≡ get_or (take (m + 1) cs) n 0 → y ≡ get_or (drop k s) n 0 → (so_far : ℕ) → so_far ≡ sum A n (λ j. A.times (get_or cs j 0) (get_or s (k + j) 0))
    → (term : ℕ) → term ≡ A.times x y → (all : ℕ) → all ≡ A.plus so_far term → (n-after : ℕ) → n-after ≡ n + 1 → all ≡ sum A n-after (λ j. A.times (get_or cs j 0) (get_or s (k + j) 0))
more A cs s m k n x y within x-is y-is so_far so_far-is term term-is all all-is n-after n-after-is =
    let small : n < m + 1 = omega (arith, length-take (m + 1) cs) in
    let first = x-is ∙ get_or-take (m + 1) cs n 0 small in
    let second = y-is ∙ get_or-drop k s n 0 in
    all-is ∙ ap₂ A.plus so_far-is (term-is ∙ ap₂ A.times first second) ∙ ap (λ n. sum A n (λ j. A.times (get_or cs j 0) (get_or s (k + j) 0))) (sym (n-after-is ∙ add-one n))

pub loop-coefficient-preserved : goal.loop-coefficient-preserved
loop-coefficient-preserved g c =
    let A = (g.F.Field.meaning c.args.field.now).arithmetic in
    let s = c.args.sequence.now in
    let left : c.into_iter-coefficient-iterator.result.a.rest.now ≡ take (c.args.degree + 1) c.args.f.now.coeffs = search rules in
    let rest : c.into_iter-coefficient-iterator.result.b.rest.now ≡ take (length s - c.args.k) (drop c.args.k s) = search rules in
    let right = rest ∙ take_all (length s - c.args.k) (drop c.args.k s) (omega (arith, length-drop c.args.k s)) in
    let t = zip_turn _ _ c.loop-coefficient.yielded c.into_iter-coefficient-iterator.result c.loop-coefficient.coefficient-iterator c.next.new.self _ left right c.loop-coefficient.yielded_by _ c.in-Some.is c.next.ensures.steps in
    more A c.args.f.now.coeffs c.args.sequence.now c.args.degree c.args.k (length c.loop-coefficient.yielded) c.in-Some.coefficient.now c.in-Some.x.now t.0 (t.2 0) (t.3 0) c.loop-coefficient.sum c.loop-coefficient.invariant _ c.mul.ensures _ c.add-sum.ensures _ (length_push c.loop-coefficient.yielded _)
