use Rattle.std.proofs.Common.{take}
use Rattle.tray_file.specs.body.NumberLists.{numbers}
use Rattle.tray_file.specs.writer.Pages.{Added}
use Rattle.tray_file.proofs.writer.page.Page.put_list.Given as goal

-- the numbers so far
abbrev pub invariant-loop-value : goal.invariant-loop-value
invariant-loop-value l = Added (numbers (take l.value-index l.list)) l.initial.self l.self
