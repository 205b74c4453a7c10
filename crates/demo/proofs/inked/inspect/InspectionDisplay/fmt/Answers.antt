use Rattle.std.proofs.Common.{◌++◌, refl, codes, ap, sym}
use Rattle.std.proofs.lemmas.Grind.{put_two}
use Rattle.codes.specs.declared.standing.Standing.{Standing}
use Rattle.demo.specs.inked.Texts.{cells_and_sums, standing_text}
use Rattle.demo.proofs.inked.inspect.InspectionDisplay.fmt.Goals as goal

pub returns-in-Unfinished-clause-writes : goal.returns-in-Unfinished-clause-writes
returns-in-Unfinished-clause-writes g c plain done =
    let front = c.in_ok-write.ensures.writes plain refl in
    let standing = c.write-in-Unfinished.ensures.writes front.plain done in
    put_two g.W.Write.write_str_gives _ _ _ _ _ _ front standing (ap (λ (v : Standing). cells_and_sums c.args.self.now ++ (codes "  " ++ standing_text v)) (sym c.in-Unfinished.is))
