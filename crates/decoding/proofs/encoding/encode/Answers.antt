use Rattle.std.proofs.Common.{◌≡◌, refl, ap, ◌∙◌, subst, arith}
use Rattle.codes.specs.Code.{Code}
use Rattle.fields.specs.Elements.{AllBelow}
use Rattle.decoding.proofs.encoding_lemmas.EncodedWords.{encoded}
use Rattle.decoding.proofs.encoding.encode.Goals as goal

pub returns : goal.returns
returns g c =
    let card = c.args.card.now in
    let letters = c.args.data.now in
    let size : c.size.result ≡ (g.F.Field.meaning card.field).arithmetic.size =
    c.size.ensures ∙ ap (λ f. (g.F.Field.meaning f).arithmetic.size) c.field.ensures in
    let alphabet = ap (λ (x : Code). x.letters) c.code-code.ensures in
    let rows = ap (λ (x : Code). x.rows) c.code-code.ensures in
    encoded card.checked letters c.args.word.now c.write_codeword.new.word (omega arith)
    (record { data_each = omega (arith, card.checked.shape.sizes.fewer_rows); a_place_each = omega arith })
    (subst (λ size. AllBelow size letters) alphabet (c.if-not-all_below.ensures.0 refl))
    c.write_codeword.ensures
