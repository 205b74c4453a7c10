use Rattle.std.proofs.Common.{rules, ◌≡◌, ℕ, ◌+◌, not, is_some, cond, count_by, List, [], ◌∷◌, Some, None, Option, ap₂, refl, ◌∙◌}
use Rattle.std.proofs.lemmas.List.Sums.{sum_by-cons}
use Rattle.codes.specs.Cells.{blanks, one_if_blank}
use Rattle.codes.specs.declared.cell.Cell.{Cell}
use Rattle.codes.proofs.standing.count_blanks.Goals as goal

one : (letter : Option ℕ) → cond (not (is_some letter)) 1 0 ≡ one_if_blank letter
one None = refl
one (Some letter) = refl

counted : (cells : List Cell) → count_by (λ (cell : Cell). not (is_some cell.letter)) cells ≡ blanks cells
counted [] = refl
counted (cell ∷ cells) = sum_by-cons (λ (c : Cell). cond (not (is_some c.letter)) 1 0) cell cells ∙ ap₂ ◌+◌ (one cell.letter) (counted cells)

pub returns : goal.returns
returns c =
    let run : c.count.result ≡ count_by (λ (cell : Cell). not (is_some cell.letter)) c.args.cells.now = search rules in
    run ∙ counted c.args.cells.now
