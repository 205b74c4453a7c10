use Rattle.std.proofs.Common.{◌≤◌, map, length, refl, ap, ◌∙◌, subst, arith}
use Rattle.std.proofs.lemmas.List.{length-map}
use Rattle.algebra.specs.Limits.{largest_cells, largest_size}
use Rattle.codes.specs.Code.{Code}
use Rattle.codes.specs.Cards.{card_code}
use Rattle.codes.specs.Standings.{Lettered}
use Rattle.tray_file.specs.body.CellBodies.{cell_number}
use Rattle.tray_file.proofs.writer_lemmas.WritableValues.{small_cells, one_list, one_list_bytes, cells_written}
use Rattle.tray_file.specs.writer.ReadingBack.{CellsComeBack}
use Rattle.tray_file.proofs.writer_lemmas.WrittenRecords.{cells_come_back, made_always}
use Rattle.tray_file.proofs.writer.cells_writing.write_cells.Goals as goal

pub write_numbers-requires : goal.write_numbers-requires
write_numbers-requires g c =
    let cells = c.args.cells.now in
    let checked = c.args.card.now.checked in
    let head = c.as_slice.ensures.value ∙ c.cell_numbers-numbers.ensures in
    let letters : c.code-letters.result.letters ≤ largest_size = omega (arith, ap (λ (x : Code). x.letters) c.code-letters.ensures, checked.alphabet.elements, checked.laws.bounded) in
    let few : length (map cell_number cells) ≤ largest_cells = omega (arith, c.if-cells.false, c.cells.ensures, checked.shape.sizes.most_cells, length-map cells cell_number) in
    one_list _ (map cell_number cells) head refl refl few (small_cells c.code-letters.result.letters cells letters (c.if-not-lettered.ensures.0 refl))

pub returns : goal.returns
returns g c =
    let cells = c.args.cells.now in
    let card = c.args.card.now in
    let head = c.as_slice.ensures.value ∙ c.cell_numbers-numbers.ensures in
    let code = card_code card in
    let all = c.if-cells.false ∙ c.cells.ensures in
    let lettered = subst (λ n. Lettered n cells) (ap (λ (x : Code). x.letters) c.code-letters.ensures) (c.if-not-lettered.ensures.0 refl) in
    record {
      written = cells_written code cells _ c.args.buffer.now c.write_numbers.new.buffer c.write_numbers.result all lettered
          (one_list_bytes _ _ _ (map cell_number cells) head refl refl) c.write_numbers.ensures;
      back = made_always c.write_numbers.result (CellsComeBack code cells) (cells_come_back (g.F.Field.meaning card.field) code cells card.checked all lettered);
    }
