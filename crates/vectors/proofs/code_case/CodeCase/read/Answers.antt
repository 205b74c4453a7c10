use Rattle.std.proofs.Common.{◌≡◌, ap, ◌∙◌, List, ℕ, subst}
use Rattle.std.specs.List.{before_first, after_first}
use Rattle.vectors.specs.Parts.{part, semicolon, numbers_in}
use Rattle.vectors.proofs.code_case.CodeCase.read.Goals as goal

-- the front of what stands after the first part, and of what stands after that
second : (text rest front : List ℕ) → rest ≡ after_first semicolon text → front ≡ before_first semicolon rest → front ≡ part 1 text
unfolding part
second text rest front rest-is front-is = front-is ∙ ap (before_first semicolon) rest-is

third : (text rest last front : List ℕ) → rest ≡ after_first semicolon text → last ≡ after_first semicolon rest → front ≡ before_first semicolon last → front ≡ part 2 text
unfolding part
third text rest last front rest-is last-is front-is = front-is ∙ ap (before_first semicolon) (last-is ∙ ap (after_first semicolon) rest-is)

pub returns-clause-locators : goal.returns-clause-locators
unfolding part
returns-clause-locators c = subst (λ (text : List ℕ). c.in_ok-locators.locators.items ≡ numbers_in text) c.cut.ensures.before c.in_ok-locators.ensures

pub returns-clause-multipliers : goal.returns-clause-multipliers
returns-clause-multipliers c =
    subst (λ (text : List ℕ). c.in_ok-multipliers.multipliers.items ≡ numbers_in text) (second _ _ _ c.cut.ensures.after c.cut-2.ensures.before) c.in_ok-multipliers.ensures

pub returns-clause-last : goal.returns-clause-last
returns-clause-last c = third _ _ _ _ c.cut.ensures.after c.cut-2.ensures.after c.cut-3.ensures.before
