use Rattle.std.proofs.Common.{◌++◌, refl, codes, ap, sym}
use Rattle.std.proofs.lemmas.Grind.{put_two}
use Rattle.tags.specs.declared.marks.line.LineRefusal.{LineRefusal}
use Rattle.demo.specs.inked.Texts.{line_word, line_fault}
use Rattle.demo.proofs.inked.refused.RefusedLineDisplay.fmt.Goals as goal

pub returns-in-WrongLength-clause-writes : goal.returns-in-WrongLength-clause-writes
returns-in-WrongLength-clause-writes g c plain done =
    let word = c.in_ok-write.ensures.writes plain refl in
    let fault = c.write-in-WrongLength.ensures.writes word.plain done in
    let line = c.args.self.now in
    put_two g.W.Write.write_str_gives _ _ _ _ _ _ word fault (ap (λ (r : LineRefusal). (line_word line.refusal ++ codes ": ") ++ line_fault line.wanted line.marks r) (sym c.in-WrongLength.is))

pub returns-in-BadMark-clause-writes : goal.returns-in-BadMark-clause-writes
returns-in-BadMark-clause-writes g c plain done =
    let word = c.in_ok-write.ensures.writes plain refl in
    let fault = c.write-in-BadMark.ensures.writes word.plain done in
    let line = c.args.self.now in
    let start = line_word line.refusal ++ codes ": " in
    put_two g.W.Write.write_str_gives _ _ _ _ _ _ word fault
    (ap (λ (r : LineRefusal). start ++ line_fault line.wanted line.marks r) (sym c.in-BadMark.is))
