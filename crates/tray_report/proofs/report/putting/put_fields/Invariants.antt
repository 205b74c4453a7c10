use Rattle.std.proofs.Common.{take}
use Rattle.std.specs.Io.KnownBytes.{Appends}
use Rattle.tray_report.specs.Putting.{fields_text}
use Rattle.tray_report.proofs.report.putting.put_fields.Given as goal

-- the fields so far were taken
abbrev pub invariant-loop-field : goal.invariant-loop-field
invariant-loop-field g l = Appends (g.W.Write.contents l.fn.out) (g.W.Write.contents l.out) (fields_text (take l.field-index l.fields))
