-- The cells of data: letters in the first of them, and blanks after these.
use Rattle.std.proofs.Common.{◌≡◌, ℕ, zero, suc, ◌+◌, ◌-◌, ◌<◌, ◌≤◌, List, [], ◌∷◌, length, get_or, replicate, Some, None, Option, sym, refl, ap, ◌∙◌, subst, ap₂, inl, inr, zero-add, arith}
use Rattle.std.proofs.lemmas.List.{length-append, length-replicate, get_or_append_left, get_or-append_right}
use Rattle.std.proofs.lemmas.Bool.{cases_lt}
use Rattle.codes.specs.Code.{Code}
use Rattle.codes.specs.Cells.{blank_cell, blanks, noted}
use Rattle.decoding.specs.encoding.Encodings.{data_cells}
use Rattle.codes.specs.declared.cell.Cell.{Cell}
use Rattle.codes.proofs.Words.{length_noted, get_or_noted}

module _ (code : Code) (letters : List ℕ) where
  pub length_data_cells : length (data_cells code letters) ≡ length letters + code.rows
  length_data_cells =
      length-append (noted letters) (replicate code.rows blank_cell)
      ∙ ap₂ ◌+◌ (length_noted letters) (length-replicate code.rows blank_cell)

  -- a cell holds a letter of the data, or nothing
  pub data_noted : (j : ℕ) → j < length letters → (get_or (data_cells code letters) j blank_cell).letter ≡ Some (get_or letters j 0)
  data_noted j h =
      ap (λ (x : Cell). x.letter)
      (get_or_append_left (noted letters) (replicate code.rows blank_cell) blank_cell j (omega (arith, length_noted letters)))
      ∙ get_or_noted letters j h

  data_blank : (j : ℕ) → length letters ≤ j → (get_or (data_cells code letters) j blank_cell).letter ≡ None
  data_blank j h =
      ap (λ (x : Cell). x.letter)
      (get_or-append_right (noted letters) (replicate code.rows blank_cell) (length letters) j blank_cell (length_noted letters) h
      ∙ all_blank code.rows (j - length letters))
    where
      all_blank : (n i : ℕ) → get_or (replicate n blank_cell) i blank_cell ≡ blank_cell
      all_blank zero i = refl
      all_blank (suc n) zero = refl
      all_blank (suc n) (suc i) = all_blank n i

  -- what holds of a letter of the data at its place, and of nothing, holds of every cell
  pub each_data_cell : (P : ℕ → Option ℕ → Type 0) → ((j : ℕ) → j < length letters → P j (Some (get_or letters j 0))) →
      ((j : ℕ) → P j None) → (j : ℕ) → P j (get_or (data_cells code letters) j blank_cell).letter
  each_data_cell P noted blank j =
      elim (cases_lt j (length letters)) [
        | inl h ↦ subst (P j) (sym (data_noted j h)) (noted j h)
        | inr h ↦ subst (P j) (sym (data_blank j h)) (blank j)
      ]

-- every row has a blank
pub blanks_data_cells : (code : Code) (letters : List ℕ) → blanks (data_cells code letters) ≡ code.rows
blanks_data_cells code [] = blanks_only code.rows
  where
    blanks_only : (n : ℕ) → blanks (replicate n blank_cell) ≡ n
    blanks_only zero = refl
    blanks_only (suc n) = let few = blanks_only n in omega arith
blanks_data_cells code (x ∷ letters) = zero-add _ ∙ blanks_data_cells code letters
