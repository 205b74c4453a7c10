-- The places of the blank cells: how many they are, and their annihilator, cell by cell.
use Rattle.std.proofs.Common.{◌≡◌, ℕ, zero, suc, ◌+◌, ◌<◌, ◌≤◌, Bool, true, false, cond, List, [], ◌∷◌, map, length, get_or, is_some, Some, None, Option, refl, ap, ◌∙◌, ap₂, inl, inr, add-one, arith}
use Rattle.std.proofs.lemmas.Bool.{cond-true, cond-false, cases_lt}
use Rattle.algebra.specs.Meaning.{Arithmetic}
use Rattle.algebra.specs.Places.{failures}
use Rattle.algebra.specs.Polynomial.{annihilator, linear_product}
use Rattle.algebra.proofs.Counts.{length_failing}
use Rattle.codes.specs.Cells.{blank_cell, blanks, one_if_blank}
use Rattle.decoding.specs.filling.Fillings.{number_at, blanks_below, blank_places, annihilator_below}
use Rattle.codes.specs.declared.cell.Cell.{Cell}

-- the count from the first place on
pub failures_front : (n : ℕ) (t : ℕ → Bool) → failures (suc n) t ≡ cond (t 0) 0 1 + failures n (λ i. t (suc i))
failures_front zero t = omega arith
failures_front (suc n) t = step (t (suc n)) _ _ _ (failures_front n t)
  where
    step : (b : Bool) (one F G : ℕ) → F ≡ one + G → cond b F (suc F) ≡ one + cond b G (suc G)
    step true one F G e = e
    step false one F G e = omega arith

one_is : (letter : Option ℕ) → cond (is_some letter) 0 1 ≡ one_if_blank letter
one_is None = refl
one_is (Some x) = refl

pub blanks_are : (cells : List Cell) → failures (length cells) (λ j. is_some (get_or cells j blank_cell).letter) ≡ blanks cells
blanks_are [] = refl
blanks_are (cell ∷ cells) =
    failures_front (length cells) (λ j. is_some (get_or (cell ∷ cells) j blank_cell).letter) ∙ ap₂ ◌+◌ (one_is cell.letter) (blanks_are cells)

pub length_blank_places : (cells : List Cell) → length (blank_places cells) ≡ blanks cells
length_blank_places cells = length_failing (length cells) _ ∙ blanks_are cells

module _ (cells : List Cell) where
  pub blank_more : (j : ℕ) → is_some (get_or cells j blank_cell).letter ≡ false → blanks_below cells (suc j) ≡ j ∷ blanks_below cells j
  blank_more j e = cond-false _ _ _ e

  pub noted_more : (j : ℕ) → is_some (get_or cells j blank_cell).letter ≡ true → blanks_below cells (suc j) ≡ blanks_below cells j
  noted_more j e = cond-true _ _ _ e

  pub fewer_below : (n j : ℕ) → j ≤ n → length (blanks_below cells j) ≤ length (blanks_below cells n)
  fewer_below zero j h = let none : j ≡ 0 = omega arith in omega (arith, ap (λ i. length (blanks_below cells i)) none)
  fewer_below (suc n) j h =
      elim (cases_lt n j) [
        | inl top ↦ (let same : j ≡ suc n = omega arith in omega (arith, ap (λ i. length (blanks_below cells i)) same))
        | inr below ↦ (let grown : length (blanks_below cells n) ≤ length (blanks_below cells (suc n)) =
            grows (is_some (get_or cells n blank_cell).letter) in
            omega (arith, fewer_below n j below))
      ]
    where
      grows : (b : Bool) → length (blanks_below cells n) ≤ length (cond b (blanks_below cells n) (n ∷ blanks_below cells n))
      grows true = omega arith
      grows false = omega arith

  -- a blank among the first n leaves room for one more
  pub blank_room : (n j : ℕ) → j < n → is_some (get_or cells j blank_cell).letter ≡ false →
      length (blanks_below cells j) < length (blanks_below cells n)
  blank_room n j h e = omega (arith, fewer_below n (suc j) h, ap length (blank_more j e))

  module _ (A : Arithmetic) (locators : List ℕ) (j : ℕ) where
    pub annihilator_blank : is_some (get_or cells j blank_cell).letter ≡ false →
        annihilator_below A locators cells (j + 1) ≡ linear_product A (get_or locators j 0) (annihilator_below A locators cells j)
    unfolding annihilator_below
    annihilator_blank e = ap (λ l. annihilator A (map (number_at locators) l)) (ap (blanks_below cells) (add-one j) ∙ blank_more j e)

    pub annihilator_noted : is_some (get_or cells j blank_cell).letter ≡ true →
        annihilator_below A locators cells (j + 1) ≡ annihilator_below A locators cells j
    unfolding annihilator_below
    annihilator_noted e = ap (λ l. annihilator A (map (number_at locators) l)) (ap (blanks_below cells) (add-one j) ∙ noted_more j e)
