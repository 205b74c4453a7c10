use Rattle.std.proofs.Common.{rules}
use Rattle.tags.specs.marks.Marks.{cell_of_mark}
use Rattle.tags.proofs.marks.mark.read_mark.Goals as goal

pub returns-in-45 : goal.returns-in-45
unfolding cell_of_mark
returns-in-45 c = search rules

pub returns-in-63 : goal.returns-in-63
unfolding cell_of_mark
returns-in-63 c = search rules

pub returns-in-0-to-9 : goal.returns-in-0-to-9
unfolding cell_of_mark
returns-in-0-to-9 c = search rules

pub returns-in-A-to-Z : goal.returns-in-A-to-Z
unfolding cell_of_mark
returns-in-A-to-Z c = search rules

pub returns-in_default : goal.returns-in_default
unfolding cell_of_mark
returns-in_default c = search rules

pub returns-in_default-2 : goal.returns-in_default-2
unfolding cell_of_mark
returns-in_default-2 c = search rules

pub returns-in_default-3 : goal.returns-in_default-3
unfolding cell_of_mark
returns-in_default-3 c = search rules
