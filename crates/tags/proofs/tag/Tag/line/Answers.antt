use Rattle.std.proofs.Common.{◌-◌, List, take, sym, refl, ap, ◌∙◌, subst}
use borrow.Rule.Slice.PartMut.{same_len_mid}
use Rattle.std.specs.Str.{chars}
use Rattle.std.proofs.lemmas.List.{take_at}
use Rattle.codes.specs.Code.{Code}
use Rattle.codes.specs.Cards.{card_code}
use Rattle.codes.specs.Standings.{Lettered}
use Rattle.codes.specs.declared.cell.Cell.{Cell}
use Rattle.tags.specs.marks.Lines.{LineRead}
use Rattle.tags.proofs.tag_lemmas.Lettering.{lettered_line}
use Rattle.tags.proofs.tag_lemmas.Sheets.{line_answered}
use Rattle.tags.specs.tag.Sheet.{width}
use Rattle.tags.proofs.tag_lemmas.Tags.{own_line}
use Rattle.tags.proofs.tag.Tag.line.Goals as goal

pub invariant_of-self : goal.invariant_of-self
invariant_of-self g c =
    let tag = c.args.self.now in
    let card = tag.card.now in
    let n = width (card_code card) in
    let cells = tag.table.cells in
    let after = c.read_line.new.cells in
    let marks = chars c.args.line.now in
    let own = own_line n card.letters cells after marks c.read_line.result c.cells-width.result _ card.checked.shape.sizes.most_cells c.cells-width.ensures (ap (λ (d : Code). d.letters) c.code-letters.ensures) tag.long c.read_line.auto.cells c.read_line.ensures in
    record {
      long = same_len_mid 0 (c.cells-width.result - 0) cells after c.read_line.auto.cells ∙ tag.long;
      lettered =
          subst (λ (own-cells : List Cell). ∥ Lettered card.letters own-cells ∥₁) (sym (take_at after _ n own.after_long))
          (lettered_line card.letters marks (take n cells) after c.read_line.result own.read tag.lettered);
    }

pub returns : goal.returns
returns g c =
    let tag = c.args.self.now in
    let card = tag.card.now in
    let n = width (card_code card) in
    let cells = tag.table.cells in
    let after = c.read_line.new.cells in
    let marks = chars c.args.line.now in
    let own = own_line n card.letters cells after marks c.read_line.result c.cells-width.result _ card.checked.shape.sizes.most_cells c.cells-width.ensures (ap (λ (d : Code). d.letters) c.code-letters.ensures) tag.long c.read_line.auto.cells c.read_line.ensures in
    let answered = line_answered (card_code card) marks (take n cells) after own.before_long c.read_line.result own.read in
    let front = take_at after _ n own.after_long in
    record {
      marks = subst (λ (own-cells : List Cell). LineRead card.letters marks (take n cells) own-cells c.read_line.result) (sym front) own.read;
      answer = answered.0;
      cells = front ∙ answered.1;
      card = refl;
    }
