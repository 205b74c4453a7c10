use Rattle.std.proofs.Common.{ℕ, refl, ap, ◌∙◌, subst₂}
use Rattle.tray_file.specs.body.CellBodies.{cells_of, CellsRefused}
use Rattle.tray_file.proofs.body_lemmas.CellNumbers.{cells_in, cells_renamed}
use Rattle.tray_file.proofs.body.cells_body.list_cells.Goals as goal

pub returns-in-Ok : goal.returns-in-Ok
returns-in-Ok c =
    let shape = c.shape_of_any.result in
    let is = c.shape_of_any.ensures in
    let numbers = c.in-Ok.numbers in
    let read = c.in-Ok.ensures in
    let found = cells_in shape.cells shape.letters numbers c.args.body.now read.0 read.2 read.1 in
    cells_renamed found is.cells is.letters
    (c.set_cells.ensures ∙ ap cells_of c.as_slice.ensures.value)

pub returns-in-Err : goal.returns-in-Err
returns-in-Err c =
    let is = c.shape_of_any.ensures in
    (subst₂ (λ (n letters : ℕ). CellsRefused n letters c.args.body.now c.in-Err.fault) is.cells is.letters c.in-Err.ensures, refl)
