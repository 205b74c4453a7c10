use Rattle.std.proofs.Common.{◌≡◌, ℕ, length, Option, sym, ap, ◌∙◌, arith, rules}
use Rattle.std.proofs.lemmas.List.{ext_get_or, length-map, get_or-map}
use Rattle.codes.specs.Cells.{blank_cell, noted, noted_cell}
use Rattle.demo.proofs.inked.monday.letters_of.Goals as goal

pub returns : goal.returns
returns c =
    let cells = c.args.cells.now in
    let letters = c.loop-place.letters in
    let inv = c.loop-place.invariant in
    let twelve : length cells ≡ 12 = search rules in
    ext_get_or blank_cell cells (noted letters) (twelve ∙ sym inv.0 ∙ sym (length-map letters noted_cell))
    (λ i h. ap (λ (letter : Option ℕ). record { letter = letter }) (inv.1 i (omega arith)) ∙ sym (get_or-map noted_cell letters i 0 blank_cell (omega arith)))
