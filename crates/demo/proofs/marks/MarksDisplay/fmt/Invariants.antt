use Rattle.std.proofs.Common.{take}
use Rattle.std.specs.Fmt.{IsPlainFormatter, HasWritten}
use Rattle.demo.specs.MarkTexts.{marks_text}
use Rattle.demo.proofs.marks.MarksDisplay.fmt.Given as goal

-- the marks so far are written
abbrev pub invariant-loop-letter : goal.invariant-loop-letter
invariant-loop-letter g l = IsPlainFormatter l.initial.f → HasWritten g.W.Write.write_str_gives l.initial.f (marks_text (take l.letter-index l.letter-items)) l.f
