use Rattle.std.proofs.Common.{ap, ◌∙◌, ap₂, arith}
use Rattle.codes.specs.Code.{Code, code_of}
use Rattle.codes.specs.Cells.{blanks}
use Rattle.codes.specs.Sums.{syndromes}
use Rattle.decoding.specs.filling.Fillings.{filled}
use Rattle.decoding.specs.encoding.Encodings.{encoding}
use Rattle.decoding.proofs.encoding_lemmas.DataCells.{blanks_data_cells}
use Rattle.decoding.proofs.encoding.write_codeword.Goals as goal

pub write_letters-requires-clause-few : goal.write_letters-requires-clause-few
write_letters-requires-clause-few g c =
    let code = code_of c.over-over.result.code in
    let count = ap blanks (c.as_slice-cells.ensures.value ∙ c.data_cells-cells.ensures) ∙ blanks_data_cells code c.args.data.now in
    omega arith

pub write_letters-requires-clause-largest : goal.write_letters-requires-clause-largest
write_letters-requires-clause-largest g c =
    let code = code_of c.over-over.result.code in
    let count = ap blanks (c.as_slice-cells.ensures.value ∙ c.data_cells-cells.ensures) ∙ blanks_data_cells code c.args.data.now in
    let rows = ap (λ (x : Code). x.rows) c.over-over.ensures.values in
    omega (arith, c.args.card.now.checked.shape.sizes.most_rows)

pub returns : goal.returns
unfolding encoding
returns g c =
    let over = c.over-over.result in
    let m = g.F.Field.meaning over.field.now in
    let code = code_of over.code in
    let summed = rw c.unwrap.ensures at c.sums.ensures in
    let cells = c.as_slice-cells.ensures.value ∙ c.data_cells-cells.ensures in
    c.write_letters.ensures ∙ ap₂ (filled m code) cells (summed.1 ∙ ap (syndromes m.arithmetic code) cells)
    ∙ ap₂ (λ f x. encoding (g.F.Field.meaning f) x c.args.data.now) c.over-over.ensures.field c.over-over.ensures.values
