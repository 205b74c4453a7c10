use Rattle.std.proofs.Common.{take}
use Rattle.std.specs.Io.KnownBytes.{Appends}
use Rattle.codes.specs.WordText.{word_text}
use Rattle.tray_report.proofs.report.putting.put_letters.Given as goal

-- the letters so far were taken
abbrev pub invariant-loop-letter : goal.invariant-loop-letter
invariant-loop-letter g l = Appends (g.W.Write.contents l.fn.out) (g.W.Write.contents l.out) (word_text (take l.letter-index l.letters))
