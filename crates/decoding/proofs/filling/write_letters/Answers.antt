use Rattle.std.proofs.Common.{◌≡◌, ℕ, List, length, get_or, set, unwrap_or, ap, ◌∙◌, arith}
use Rattle.std.proofs.lemmas.List.Edits.{fill_by_more}
use Rattle.std.proofs.lemmas.List.FromFn.{fill_by_all}
use Rattle.codes.specs.Code.{code_of}
use Rattle.codes.specs.Cells.{blank_cell}
use Rattle.decoding.specs.filling.Fillings.{number_at, annihilator_below, letter_from, filled_letter, filled}
use Rattle.decoding.proofs.filling.write_letters.Goals as goal

pub loop-j-preserved : goal.loop-j-preserved
unfolding annihilator_below filled_letter
loop-j-preserved g c k h =
    let m = g.F.Field.meaning c.args.over.field.now in
    let code = code_of c.args.over.code in
    let cells = c.args.cells.now in
    let sums = c.args.sums.now in
    let word = c.loop-j.word in
    let j = c.loop-j.j in
    let from : List ℕ → ℕ = λ p.
    unwrap_or (get_or cells j blank_cell).letter (letter_from m p (number_at sums) (get_or code.locators j 0) (get_or code.multipliers j 0)) in
    let letter : c.letter_of.result ≡ filled_letter m code cells sums j =
    c.letter_of.ensures ∙ ap from c.blank_annihilator.ensures.product in
    ap (λ x. get_or (set word j x) k 0) letter
    ∙ fill_by_more (filled_letter m code cells sums) word j 0 (omega arith) c.loop-j.invariant k h

pub returns : goal.returns
unfolding filled
returns g c =
    let cells = c.args.cells.now in
    fill_by_all _ c.loop-j.word (length cells) 0 (omega arith) (λ k h. c.loop-j.invariant k (omega arith))
