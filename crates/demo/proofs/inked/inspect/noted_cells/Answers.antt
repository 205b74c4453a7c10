use Rattle.std.proofs.Common.{rules, of_calls, ◌≡◌, ◌<◌, length, get_or, sym, ◌∙◌, arith}
use Rattle.std.proofs.lemmas.List.{ext_get_or, length-map, get_or-map}
use Rattle.codes.specs.Cells.{blank_cell, noted, noted_cell}
use Rattle.demo.proofs.inked.inspect.noted_cells.Goals as goal

pub returns : goal.returns
returns c =
    let word = c.args.word.now in
    let made = c.map.ensures.items in
    let twenty : length word ≡ 20 = search rules in
    ext_get_or blank_cell c.map.result (noted word) (made.long ∙ sym twenty ∙ sym (length-map word noted_cell))
    (λ i h.
    let within : i < 20 = omega (arith, made.long) in
    let (p, q, call) = made.at i 0 blank_cell within in
    let noted_here : get_or c.map.result i blank_cell ≡ noted_cell (get_or word i 0) = search (rules, of_calls) in
    noted_here ∙ sym (get_or-map noted_cell word i 0 blank_cell (omega (arith, twenty, within))))
