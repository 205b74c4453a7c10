use Rattle.std.proofs.Common.{ℕ, refl, ap, ◌∙◌, subst₂}
use Rattle.std.proofs.lemmas.Result.{err_from_is_err_and}
use Rattle.tray_file.specs.body.CellBodies.{cells_of, CellsRefused}
use Rattle.tray_file.proofs.body_lemmas.SameCells.{cells_read_back}
use Rattle.tray_file.proofs.body_lemmas.OneAnswer.{one_cells_answer}
use Rattle.tray_file.proofs.body_lemmas.CellNumbers.{cells_in, cells_renamed}
use Rattle.tray_file.proofs.body.cells_body.read_cells.Goals as goal

pub returns-clause-read : goal.returns-clause-read
returns-clause-read g c =
    let shape = c.shape_of-shape.result in
    let is = c.shape_of-shape.ensures in
    let numbers = c.in_ok-numbers.numbers in
    let read = c.in_ok-numbers.ensures in
    let found = cells_in shape.cells shape.letters numbers c.args.body.now read.0 read.2 read.1 in
    (c.if-cells-shape.false ∙ is.cells, cells_renamed found is.cells is.letters (c.write_cells.ensures ∙ ap cells_of c.as_slice.ensures.value))

pub returns-in_err-numbers-clause-read : goal.returns-in_err-numbers-clause-read
returns-in_err-numbers-clause-read g c =
    let is = c.shape_of-shape.ensures in
    let p = err_from_is_err_and c.from_residual.result c.from_residual.ensures.1 in
    let refused = subst₂ (λ (n letters : ℕ). CellsRefused n letters c.args.body.now c.in_err-numbers.field-0.0) is.cells is.letters c.in_err-numbers.ensures in
    rw (p.1, p.2) (refl, c.if-cells-shape.false ∙ is.cells, refused, refl)

pub returns-then-cells-shape-clause-back : goal.returns-then-cells-shape-clause-back
returns-then-cells-shape-clause-back g c = cells_read_back

pub returns-in_err-numbers-clause-back : goal.returns-in_err-numbers-clause-back
returns-in_err-numbers-clause-back g c = cells_read_back

pub returns-clause-back : goal.returns-clause-back
returns-clause-back g c = cells_read_back

pub returns-then-cells-shape-clause-one : goal.returns-then-cells-shape-clause-one
returns-then-cells-shape-clause-one g c = one_cells_answer

pub returns-in_err-numbers-clause-one : goal.returns-in_err-numbers-clause-one
returns-in_err-numbers-clause-one g c = one_cells_answer

pub returns-clause-one : goal.returns-clause-one
returns-clause-one g c = one_cells_answer
