use Rattle.std.proofs.Common.{List, subst}
use Rattle.std.specs.Str.{chars}
use Rattle.codes.specs.declared.cell.Cell.{Cell}
use Rattle.tags.specs.marks.Lines.{Marked}
use Rattle.demo.specs.inked.InkedTag.{inked_letters}
use Rattle.demo.proofs.inked_lemmas.MarkedLetters.{marked_below}
use Rattle.demo.proofs.inked.monday.ink.Goals as goal

pub encoded-requires : goal.encoded-requires
encoded-requires c =
    marked_below inked_letters (chars c.args.line.now) c.in_ok-letters.letters
    (subst (λ (cells : List Cell). Marked inked_letters (chars c.args.line.now) cells) c.in_ok-letters.ensures c.in_ok-read_line.ensures.2)
