use Rattle.std.proofs.Common.{◌≡◌, suc, List, take, ap, ◌∙◌, ap₂, add-one, arith}
use Rattle.codes.specs.Code.{Code}
use Rattle.codes.specs.Cards.{card_code}
use Rattle.codes.specs.Cells.{blanks}
use Rattle.codes.specs.Sums.{syndromes}
use Rattle.codes.specs.declared.cell.Cell.{Cell}
use Rattle.decoding.specs.filling.Fillings.{filled}
use Rattle.decoding.specs.reading.Erasing.{erased}
use Rattle.decoding.proofs.reading_lemmas.Decoding.{left_few, none_near, decoded}
use Rattle.decoding.proofs.reading.found.FoundCells.decode.Goals as goal

pub returns-then-degree-over : goal.returns-then-degree-over
returns-then-degree-over g c =
    let found = c.args.self.now in
    let card = found.card.now in
    let rows = ap (λ (x : Code). x.rows) c.over-over.ensures.values in
    none_near (g.F.Field.meaning card.field) (card_code card) card.checked found.cells.now found.long c.requires.lettered
    (omega (arith, found.few, found.counted)) c.error_locator-degree.result c.error_locator-degree.new.locator c.error_locator-degree.ensures.locates
    (omega (arith, c.if-degree-over.true, found.counted, rows))

pub fill_candidate-requires-clause-few : goal.fill_candidate-requires-clause-few
fill_candidate-requires-clause-few g c =
    let found = c.args.self.now in
    let card = found.card.now in
    let m = g.F.Field.meaning card.field in
    let code = card_code card in
    let d = c.error_locator-degree.result in
    let f = c.error_locator-degree.new.locator in
    let rows = ap (λ (x : Code). x.rows) c.over-over.ensures.values in
    let is : c.erase_roots.new.cells ≡ erased m.arithmetic (take (suc d) f) code.locators found.cells.now =
    c.erase_roots.ensures.cells ∙ ap₂ (λ n (l : List Cell). erased m.arithmetic (take n f) code.locators l) (add-one d) c.copy_from_slice.ensures.after in
    let few = left_few m code card.checked found.cells.now found.long c.requires.lettered
    (omega (arith, found.few, found.counted)) d f c.error_locator-degree.ensures.locates (omega (arith, c.if-degree-over.false, found.counted, rows)) in
    omega (arith, few, ap blanks is)

pub returns : goal.returns
returns g c =
    let found = c.args.self.now in
    let card = found.card.now in
    let m = g.F.Field.meaning card.field in
    let A = m.arithmetic in
    let code = card_code card in
    let d = c.error_locator-degree.result in
    let f = c.error_locator-degree.new.locator in
    let is : c.erase_roots.new.cells ≡ erased A (take (suc d) f) code.locators found.cells.now =
    c.erase_roots.ensures.cells ∙ ap₂ (λ n (l : List Cell). erased A (take n f) code.locators l) (add-one d) c.copy_from_slice.ensures.after in
    let filled-is = c.fill_candidate.ensures.word
    ∙ ap (filled m code c.erase_roots.new.cells) c.erase_roots.ensures.sums
    ∙ ap (λ (l : List Cell). filled m code l (syndromes A code l)) is in
    decoded m code card.checked found.cells.now found.long c.requires.lettered (omega (arith, found.few, found.counted)) d f c.error_locator-degree.ensures.locates
    c.fill_candidate.new.word filled-is c.fill_candidate.new.sums c.fill_candidate.ensures.sums c.accept.result c.accept.ensures
