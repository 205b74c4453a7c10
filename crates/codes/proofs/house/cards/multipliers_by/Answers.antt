use Rattle.std.proofs.Common.{◌≡◌, ◌-◌, length, take, replicate, sym, ap, ◌∙◌, rules, arith}
use Rattle.std.proofs.lemmas.List.{take-replicate}
use Rattle.codes.specs.house.HouseRows.{rule_multipliers}
use Rattle.codes.proofs.house.cards.multipliers_by.Goals as goal

pub returns-in-Ones : goal.returns-in-Ones
returns-in-Ones c =
    let n = length c.args.locators.now in
    let items : c.unwrap.result.items ≡ take (n - 0) (replicate 256 1) = search rules in
    let whole : n - 0 ≡ n = omega arith in
    items ∙ ap (λ k. take k (replicate 256 1)) whole ∙ take-replicate n 256 1 c.requires ∙ ap (λ rule. rule_multipliers rule n c.args.locators.now) (sym c.in-Ones.is)
