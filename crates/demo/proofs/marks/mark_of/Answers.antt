use Rattle.std.proofs.Common.{rules, ◌≡◌, get_or, ap, ◌∙◌}
use Rattle.tags.specs.marks.Marks.{cell_of_mark}
use Rattle.demo.proofs.MarkTable.{mark_at, table}
use Rattle.demo.proofs.marks.mark_of.Goals as goal

pub returns : goal.returns
unfolding table
returns c =
    let found : c.unwrap_or.result ≡ get_or table c.args.letter 63 = search rules in
    record { shown = found; stands = λ h. ap cell_of_mark found ∙ mark_at c.args.letter 63 h }
