use Rattle.std.proofs.Common.{sym, ◌∙◌, rules}
use Rattle.std.proofs.lemmas.Iterator.{YieldsList-from_chars}
use Rattle.std.proofs.lemmas.Iterator.Search.{all_from_yields_List}
use Rattle.vectors.specs.Spaced.{is_common}
use Rattle.vectors.proofs.spaced.is_plain.Goals as goal

pub returns-then-not-contains : goal.returns-then-not-contains
returns-then-not-contains c = λ yes.
    let all = all_from_yields_List is_common _ _ c.all.result c.all.ensures.ran (YieldsList-from_chars c.args.line.now c.utf8.line (cc)) (λ x b q k. search rules) in
    sym all ∙ yes
