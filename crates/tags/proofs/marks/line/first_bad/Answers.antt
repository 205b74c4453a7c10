use Rattle.std.proofs.Common.{◌≡◌, ◌≢◌, ℕ, ◌<◌, List, length, Some, None, Option, zero-le, rules}
use Rattle.std.specs.Prelude.{MatchOption}
use Rattle.std.specs.List.{AllWithin, HoldsAt}
use Rattle.std.specs.Str.{chars}
use Rattle.std.proofs.lemmas.Iterator.{YieldsList-from_chars, IsFirst-from_position}
use Rattle.tags.specs.marks.Lines.{FirstBad, marked_cell}
use Rattle.tags.proofs.marks.line.first_bad.Goals as goal

-- the mark stands for no cell of the alphabet, or for one
abbrev Bad : ℕ → ℕ → Type 0
Bad letters mark = marked_cell letters mark ≡ None

abbrev Good : ℕ → ℕ → Type 0
Good letters mark = marked_cell letters mark ≢ None

first_of : (letters : ℕ) (marks : List ℕ) (place : Option ℕ) →
    MatchOption place (AllWithin (Good letters) marks 0 (length marks)) (λ i. (i < length marks) × HoldsAt (Bad letters) marks i × AllWithin (Good letters) marks 0 i)
    → FirstBad letters marks place
first_of letters marks None all = λ j h. all j 0 zero-le h
first_of letters marks (Some place) found = (found.0, found.1 0, λ j h. found.2 j 0 zero-le h)

pub returns : goal.returns
returns c =
    let letters = c.args.letters in
    first_of letters (chars c.args.line.now) c.position.result
    (IsFirst-from_position _ _ c.position.result (Bad letters) (Good letters) c.position.ensures.ran (YieldsList-from_chars c.args.line.now c.utf8.line cc) (λ x q k. search rules) (λ x q k. search rules))
