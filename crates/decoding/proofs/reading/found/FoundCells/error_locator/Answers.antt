use Rattle.std.proofs.Common.{◌≡◌, length, refl, ap, ◌∙◌, subst, ap₂, arith}
use Rattle.algebra.specs.Polynomial.{act}
use Rattle.codes.specs.Code.{Code}
use Rattle.codes.specs.Cards.{card_code}
use Rattle.codes.proofs.Codewords.{length_syndromes}
use Rattle.minimal_pairs.specs.MinimalPair.{Realised}
use Rattle.decoding.specs.filling.Fillings.{number_at, annihilator_below}
use Rattle.decoding.specs.filling.Polynomials.{coefficients_of}
use Rattle.decoding.specs.reading.Decoding.{modified_syndromes}
use Rattle.decoding.proofs.reading_lemmas.ModifiedSyndromes.{modified_are}
use Rattle.decoding.proofs.reading_lemmas.Realised.{locates_short, realised_ok, realised_locates}
use Rattle.decoding.proofs.reading.found.FoundCells.error_locator.Goals as goal

pub modified_sums-requires : goal.modified_sums-requires
modified_sums-requires g c =
    let found = c.args.self.now in
    let A = (g.F.Field.meaning found.card.now.field).arithmetic in
    let sums = ap length c.requires.summed ∙ length_syndromes A (card_code found.card.now) found.cells.now in
    let rows = ap (λ (x : Code). x.rows) c.code-code.ensures in
    omega (arith, c.blank_annihilator-product.ensures.power, found.counted, found.few, sums, rows)

pub unwrap-requires : goal.unwrap-requires
unwrap-requires g c =
    let found = c.args.self.now in
    let card = found.card.now in
    let cells = found.cells.now in
    let A = (g.F.Field.meaning card.field).arithmetic in
    let code = card_code card in
    let rows = ap (λ (x : Code). x.rows) c.code-code.ensures in
    let sums = c.args.sums.now in
    let T = c.modified_sums.new.modified in
    let P = coefficients_of c.blank_annihilator-product.result in
    let product = c.blank_annihilator-product.ensures.product
    ∙ ap₂ (λ f (x : Code). annihilator_below (g.F.Field.meaning f).arithmetic x.locators cells (length cells)) c.field-field.ensures c.code-code.ensures in
    let is : T ≡ modified_syndromes A code cells =
    modified_are A code cells P sums T product c.requires.summed (omega (arith, found.counted, found.few))
    (λ k h. c.modified_sums.ensures k h ∙ ap (λ f. act (g.F.Field.meaning f).arithmetic P (number_at sums) k) c.field-field.ensures) in
    let pinned = subst (λ f. Realised (g.F.Field.meaning f).arithmetic T c.args.locator.now _ c.realise.new.f c.realise.new.w c.realise.result) c.field-field.ensures c.realise.ensures.pinned in
    realised_ok card.checked cells T c.args.locator.now _ c.realise.new.f c.realise.new.w is c.requires.room refl c.realise.result pinned

pub returns : goal.returns
returns g c =
    let found = c.args.self.now in
    let card = found.card.now in
    let cells = found.cells.now in
    let A = (g.F.Field.meaning card.field).arithmetic in
    let code = card_code card in
    let rows = ap (λ (x : Code). x.rows) c.code-code.ensures in
    let sums = c.args.sums.now in
    let T = c.modified_sums.new.modified in
    let P = coefficients_of c.blank_annihilator-product.result in
    let product = c.blank_annihilator-product.ensures.product
    ∙ ap₂ (λ f (x : Code). annihilator_below (g.F.Field.meaning f).arithmetic x.locators cells (length cells)) c.field-field.ensures c.code-code.ensures in
    let is : T ≡ modified_syndromes A code cells =
    modified_are A code cells P sums T product c.requires.summed (omega (arith, found.counted, found.few))
    (λ k h. c.modified_sums.ensures k h ∙ ap (λ f. act (g.F.Field.meaning f).arithmetic P (number_at sums) k) c.field-field.ensures) in
    let pinned = subst (λ f. Realised (g.F.Field.meaning f).arithmetic T c.args.locator.now _ c.realise.new.f c.realise.new.w c.realise.result) c.field-field.ensures c.realise.ensures.pinned in
    let realised = subst (Realised A T c.args.locator.now _ c.realise.new.f c.realise.new.w) c.unwrap.ensures pinned in
    let locates = realised_locates card.checked cells T c.args.locator.now _ c.realise.new.f c.realise.new.w is c.requires.room refl c.unwrap.result realised in
    let places = c.requires.room in
    record { short = omega (arith, locates_short A code cells c.unwrap.result c.realise.new.f locates); locates = locates }
