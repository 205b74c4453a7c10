use Rattle.std.proofs.Common.{◌++◌, ap, ◌∙◌, codes, string_bytes}
use Rattle.codes.specs.WordText.{letter_text}
use Rattle.vectors.specs.Fold.{folded}
use Rattle.vectors.proofs.Texts.{piece_more}
use Rattle.vectors.proofs.cases.products.Goals as goal

pub loop-a-preserved : goal.loop-a-preserved
loop-a-preserved g c =
    let A = (g.F.Field.meaning c.args.field.now).arithmetic in
    piece_more (λ a. letter_text (folded A a A.size)) (codes "products") (string_bytes c.loop-a.out) (string_bytes c.write.new.self) c.loop-a.a c.loop-a.invariant
    (c.in_ok-write.ensures.bytes ∙ ap (λ (n : _). string_bytes c.loop-a.out ++ letter_text n) c.folded_products-folded.ensures)
