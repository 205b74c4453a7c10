-- Cells in which every noted letter is one of the alphabet, as a tag keeps them.
use Rattle.std.proofs.Common.{◌≡◌, ℕ, ◌<◌, ltb, List, length, get_or, take, set, replicate, Some, None, Ok, Err, Option, Result, sym, refl, ap, ◌∙◌, subst, ⊎_elim, arith}
use mathlib.Core.Logic.{∥∥₁_map}
use mathlib.Core.HLevel.{Π_prop}
use native.Mathlib.Bridge.{le_prop}
use lib.Seq.{take-set-lt}
use Rattle.std.proofs.lemmas.List.{length-set, length-replicate, get_or-set_same, get_or-set_other, get_or-replicate}
use Rattle.std.proofs.lemmas.Bool.{cases_Bool, cases_eq, cond-true, cond-false, ltb-true}
use Rattle.codes.specs.Cells.{blank_cell}
use Rattle.codes.specs.Standings.{Lettered, BelowIfNoted}
use Rattle.codes.specs.declared.cell.Cell.{Cell}
use Rattle.tags.specs.marks.Marks.{cell_of_mark}
use Rattle.tags.specs.marks.Lines.{Marked, LineRead, lettered_cell, lettered_option}
use Rattle.tags.specs.declared.marks.line.LineRefusal.{LineRefusal}
use Rattle.tags.specs.declared.marks.line.LineRefusal.TheVariants.{WrongLength, UnmarkedAlphabet, BadMark}

below_prop : (letters : ℕ) (letter : Option ℕ) → IsProp (BelowIfNoted letters letter)
below_prop letters None = λ x y. refl
below_prop letters (Some letter) = le_prop

pub lettered_prop : (letters : ℕ) (cells : List Cell) → IsProp (Lettered letters cells)
lettered_prop letters cells = Π_prop (λ j. Π_prop (λ h. below_prop letters (get_or cells j blank_cell).letter))

pub lettered_blank : (letters n : ℕ) → Lettered letters (replicate n blank_cell)
lettered_blank letters n j h = subst (λ (c : Cell). BelowIfNoted letters c.letter) (sym (get_or-replicate n j blank_cell blank_cell (omega (arith, length-replicate n blank_cell)))) tt

lettered_set : (letters : ℕ) (cells : List Cell) (i : ℕ) (new : Cell) → BelowIfNoted letters new.letter → Lettered letters cells → Lettered letters (set cells i new)
lettered_set letters cells i new below old j h =
    let within : j < length cells = omega (arith, length-set cells i new) in
    ⊎_elim
    (λ here. subst (λ (c : Cell). BelowIfNoted letters c.letter) (sym (ap (λ n. get_or (set cells i new) n blank_cell) here ∙ get_or-set_same cells i new blank_cell (omega arith))) below)
    (λ other. subst (λ (c : Cell). BelowIfNoted letters c.letter) (sym (get_or-set_other cells i j new blank_cell other)) (old j within))
    (cases_eq j i)

-- a write of a blank or a letter to one of the first n cells
pub lettered_changed : (letters n : ℕ) (cells : List Cell) (i : ℕ) (new : Cell) → i < n → BelowIfNoted letters new.letter → ∥ Lettered letters (take n cells) ∥₁ → ∥ Lettered letters (take n (set cells i new)) ∥₁
lettered_changed letters n cells i new within below old =
    ∥∥₁_map old (λ each. subst (Lettered letters) (sym (take-set-lt n cells i new within)) (lettered_set letters (take n cells) i new below each))

below_at : (letters : ℕ) (letter : Option ℕ) (x cell : Cell) → x.letter ≡ letter → lettered_cell letters letter x ≡ Some cell → BelowIfNoted letters letter
below_at letters None x cell is e = tt
below_at letters (Some letter) x cell is e =
    ⊎_elim (λ t. ltb-true letter letters t) (λ f. let no_cell : ◌≡◌ {A = ℕ} 0 1 = cc (cond-false (ltb letter letters) (Some x) None f) in absurd (omega arith)) (cases_Bool (ltb letter letters))

same_cell : (letters : ℕ) (letter : Option ℕ) (x cell : Cell) → lettered_cell letters letter x ≡ Some cell → x ≡ cell
same_cell letters None x cell e = cc
same_cell letters (Some letter) x cell e =
    ⊎_elim (λ t. cc (cond-true (ltb letter letters) (Some x) None t)) (λ f. let no_cell : ◌≡◌ {A = ℕ} 0 1 = cc (cond-false (ltb letter letters) (Some x) None f) in absurd (omega arith)) (cases_Bool (ltb letter letters))

below_of : (letters : ℕ) (o : Option Cell) (cell : Cell) → lettered_option letters o ≡ Some cell → BelowIfNoted letters cell.letter
below_of letters None cell e = let no_cell : ◌≡◌ {A = ℕ} 0 1 = cc in absurd (omega arith)
below_of letters (Some x) cell e = subst (λ (c : Cell). BelowIfNoted letters c.letter) (same_cell letters x.letter x cell e) (below_at letters x.letter x cell refl e)

lettered_marked : (letters : ℕ) (marks : List ℕ) (cells : List Cell) → Marked letters marks cells → Lettered letters cells
lettered_marked letters marks cells m j h = below_of letters (cell_of_mark (get_or marks j 0)) (get_or cells j blank_cell) (m.each j (omega (arith, m.long)))

-- a line leaves such cells, accepted or refused
pub lettered_line : (letters : ℕ) (marks : List ℕ) (before after : List Cell) (r : Result (Unit {0}) LineRefusal) → LineRead letters marks before after r → ∥ Lettered letters before ∥₁ → ∥ Lettered letters after ∥₁
lettered_line letters marks before after (Ok done) read old = ∣ lettered_marked letters marks after read.2 ∣₁
lettered_line letters marks before after (Err WrongLength) read old = subst (λ (cells : List Cell). ∥ Lettered letters cells ∥₁) (sym read.2) old
lettered_line letters marks before after (Err UnmarkedAlphabet) read old = subst (λ (cells : List Cell). ∥ Lettered letters cells ∥₁) (sym read.3) old
lettered_line letters marks before after (Err (BadMark place)) read old = subst (λ (cells : List Cell). ∥ Lettered letters cells ∥₁) (sym read.4) old
