use Rattle.std.proofs.Common.{rules, tests, ◌≡◌, ℕ, ◌+◌, Bool, true, false, cond, eqb, count_by, List, [], ◌∷◌, length, Some, None, Option, refl, ap₂, ◌∙◌, arith}
use Rattle.std.proofs.lemmas.Iterator.{YieldsList-from_slice, YieldsList-from_zip}
use Rattle.std.proofs.lemmas.Iterator.Consumers.{YieldsList-from_filter, YieldsList-at, count_from_yields_List}
use Rattle.std.proofs.lemmas.List.Sums.{sum_by-cons, length-filter}
use Rattle.std.specs.List.{zip}
use Rattle.codes.specs.declared.cell.Cell.{Cell}
use Rattle.decoding.specs.reading.Reading.{differs, one_if_wrong, wrong}
use Rattle.decoding.proofs.reading.candidate.count_wrong.Goals as goal

one : (letter : Option ℕ) (x : ℕ) → ◌≡◌ {A = ℕ} (cond (differs letter x) 1 0) (one_if_wrong letter x)
one None x = refl
one (Some letter) x = by (eqb letter x)
  where
    by : (b : Bool) → ◌≡◌ {A = ℕ} (cond (cond b false true) 1 0) (cond b 0 1)
    by true = refl
    by false = refl

counted : (cells : List Cell) (word : List ℕ) → length word ≡ length cells → count_by (λ (p : Cell × ℕ). differs p.0.letter p.1) (zip cells word) ≡ wrong cells word
counted [] word e = refl
counted (cell ∷ cells) [] e = refl
counted (cell ∷ cells) (x ∷ word) e =
    sum_by-cons (λ (p : Cell × ℕ). cond (differs p.0.letter p.1) 1 0) (cell, x) (zip cells word) ∙ ap₂ ◌+◌ (one cell.letter x) (counted cells word (omega arith))

pub returns-clause-count : goal.returns-clause-count
returns-clause-count c =
    let cells = c.args.cells.now in
    let word = c.args.word.now in
    let test : Cell × ℕ → Bool = λ p. differs p.0.letter p.1 in
    let pairs = YieldsList-from_zip (YieldsList-from_slice cells (cc)) (YieldsList-from_slice word (cc)) in
    count_from_yields_List c.filter.result c.count.result c.count.ensures.ran
    (YieldsList-from_filter _ test (YieldsList-at c.filter.ensures.source pairs) c.filter.ensures.closure (λ x b q k. search (rules, tests)))
    ∙ length-filter test (zip cells word) ∙ counted cells word c.requires
