-- A note in a cell of a tag, of a letter of its alphabet.
use Rattle.std.proofs.Common.{◌≡◌, ℕ, ◌+◌, ◌-◌, ◌<◌, ◌≤◌, List, length, get_or, set, Some, None, sym, ap, subst, ◌∙◌, arith}
use Rattle.std.proofs.lemmas.Bool.Decides.{nat_tests}
use Rattle.fields.specs.Elements.{AllBelow}
use Rattle.codes.specs.Code.{Code}
use Rattle.codes.specs.Cells.{noted_cell}
use Rattle.codes.specs.declared.cell.Cell.{Cell}
use Rattle.tags.specs.tag.Sheet.{width, refusal_of_note, after_note, unless_refused}
use Rattle.bench.specs.Damaged.{noted_letter}
use Rattle.bench.specs.declared.damage.Damage.{Damage}

-- the tag has a cell at place j, and the letter is one of its alphabet
pub record FitsNote (code : Code) (j letter : ℕ) : Type 0 where
  pub place : j < width code
  pub below : letter < code.letters

not_refused : (code : Code) (j letter : ℕ) → FitsNote code j letter → refusal_of_note code (j + 1) letter ≡ None
not_refused code j letter fits = let place = fits.place in let below = fits.below in grind (arith, nat_tests)

pub after_granted : (code : Code) (j letter : ℕ) (cells : List Cell) → FitsNote code j letter → after_note code (j + 1) letter cells ≡ set cells j (noted_cell letter)
after_granted code j letter cells fits =
    ap (λ refusal. unless_refused refusal (set cells (j + 1 - 1) (noted_cell letter)) cells) (not_refused code j letter fits)
    ∙ ap (λ (k : ℕ). set cells k (noted_cell letter)) (omega arith)

-- the letter to note is one of the alphabet, where the word's is
noted_below : (damage : Damage) (place x letters letter : ℕ) → noted_letter damage place x ≡ Some letter → x < letters → 2 ≤ letters → letter < letters
noted_below damage place x letters letter is below two = grind (arith, nat_tests)

pub fits_note : (code first : Code) (damage : Damage) (word : List ℕ) (j letter : ℕ) → code ≡ first → AllBelow first.letters word → length word ≡ width first
    → j < length word → 2 ≤ first.letters → noted_letter damage j (get_or word j 0) ≡ Some letter → FitsNote code j letter
fits_note code first damage word j letter same lettered long within two is =
    subst (λ (k : Code). FitsNote k j letter) (sym same)
    (record { place = omega arith; below = noted_below damage j (get_or word j 0) first.letters letter is (lettered j within) two })
