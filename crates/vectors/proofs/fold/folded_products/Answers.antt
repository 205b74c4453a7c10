use Rattle.std.proofs.Common.{◌≡◌, ℕ, ◌+◌, ◌*◌, ◌%◌, refl, sym, ap, ◌∙◌, ap₂, add-one, arith}
use Rattle.std.proofs.lemmas.Nat.{mod_below}
use Rattle.algebra.specs.Meaning.{Arithmetic}
use Rattle.vectors.specs.Fold.{folded}
use Rattle.vectors.proofs.fold.folded_products.Goals as goal

pub loop-b-init : goal.loop-b-init
unfolding folded
loop-b-init g c = (refl, omega arith)

-- one more product
turn : (A : Arithmetic) (a b h p : ℕ) → h ≡ folded A a b → p ≡ A.times a b → (h * 257 + p) % 65521 ≡ folded A a (b + 1)
unfolding folded
turn A a b h p is product = ap₂ (λ x y. (x * 257 + y) % 65521) is product ∙ ap (folded A a) (sym (add-one b))

pub loop-b-preserved : goal.loop-b-preserved
loop-b-preserved g c =
    (turn (g.F.Field.meaning c.args.field.now).arithmetic c.args.a c.loop-b.b c.loop-b.so_far c.mul.result c.loop-b.invariant.0 c.mul.ensures, mod_below _ 65521 (omega arith))
