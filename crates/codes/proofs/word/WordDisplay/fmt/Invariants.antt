use Rattle.std.proofs.Common.{take}
use Rattle.std.specs.Fmt.{IsPlainFormatter, HasWritten}
use Rattle.codes.specs.WordText.{word_text}
use Rattle.codes.proofs.word.WordDisplay.fmt.Given as goal

-- the letters so far are written
abbrev pub invariant-loop-letter : goal.invariant-loop-letter
invariant-loop-letter g l = IsPlainFormatter l.initial.f → HasWritten g.W.Write.write_str_gives l.initial.f (word_text (take l.letter-index l.letter-items)) l.f
