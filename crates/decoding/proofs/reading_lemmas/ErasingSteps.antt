-- Steps of the loops that change cells one by one and keep the sums those of the cells.
use Rattle.std.proofs.Common.{◌≡◌, ℕ, ◌+◌, ◌<◌, ◌≤◌, Bool, true, false, cond, List, length, get_or, set, is_some, Some, None, Option, sym, refl, ap, ◌∙◌, inl, inr, arith, get_or-set_other, get_or-set_same}
use Rattle.std.proofs.lemmas.List.FromFn.{fill_by_all}
use Rattle.std.proofs.lemmas.List.{ext_get_or}
use Rattle.std.proofs.lemmas.Bool.{cases_eq, false≢true}
use Rattle.algebra.specs.Meaning.{Arithmetic}
use Rattle.algebra.specs.Power.{times_power}
use Rattle.codes.specs.Code.{Code}
use Rattle.codes.specs.Cells.{blank_cell, noted_cell, noted}
use Rattle.decoding.specs.filling.Fillings.{IfNoted}
use Rattle.codes.specs.Sums.{syndrome, syndromes}
use Rattle.codes.specs.declared.cell.Cell.{Cell}
use Rattle.codes.proofs.Words.{length_noted, get_or_noted}
use Rattle.codes.proofs.Codewords.{get_or_syndromes, length_syndromes}
use Rattle.decoding.specs.reading.Erasing.{root, erased_cell}

-- the cells below j are what f says, and the others are as they were
pub record ChangedTo (f : ℕ → Cell) (before cells : List Cell) (j : ℕ) : Type 0 where
  pub below : (i : ℕ) → i < j → get_or cells i blank_cell ≡ f i
  pub above : (i : ℕ) → j ≤ i → get_or cells i blank_cell ≡ get_or before i blank_cell

module _ (f : ℕ → Cell) (before : List Cell) where
  pub changed_none : ChangedTo f before before 0
  changed_none = record { below = λ i h. absurd (omega arith); above = λ i _. refl }

  -- one cell more stays as it is
  pub changed_keep : (cells : List Cell) (j : ℕ) → ChangedTo f before cells j → get_or before j blank_cell ≡ f j → ChangedTo f before cells (j + 1)
  changed_keep cells j so_far is = record {
    below = λ i h. elim (cases_eq i j) [
      | inl e ↦ so_far.above i (omega arith) ∙ ap (λ t. get_or before t blank_cell) e ∙ is ∙ ap f (sym e)
      | inr other ↦ so_far.below i (omega arith)
    ];
    above = λ i h. so_far.above i (omega arith);
  }

  -- one cell more is written
  pub changed_set : (cells : List Cell) (j : ℕ) → j < length cells → ChangedTo f before cells j → ChangedTo f before (set cells j (f j)) (j + 1)
  changed_set cells j within so_far = record {
    below = λ i h. elim (cases_eq i j) [
      | inl e ↦ ap (λ t. get_or (set cells j (f j)) t blank_cell) e ∙ get_or-set_same cells j (f j) blank_cell within ∙ ap f (sym e)
      | inr other ↦ get_or-set_other cells j i (f j) blank_cell other ∙ so_far.below i (omega arith)
    ];
    above = λ i h. get_or-set_other cells j i (f j) blank_cell (λ same. omega arith) ∙ so_far.above i (omega arith);
  }

-- the cell in which the word's letter at place i is noted
abbrev pub noted_at : List ℕ → ℕ → Cell
noted_at word i = noted_cell (get_or word i 0)

pub all_noted : (before cells : List Cell) (word : List ℕ) (j : ℕ) → length cells ≡ length word → length word ≤ j → ChangedTo (noted_at word) before cells j → cells ≡ noted word
all_noted before cells word j long whole changed =
    ext_get_or blank_cell cells (noted word) (long ∙ sym (length_noted word))
    (λ i h. changed.below i (omega arith) ∙ sym (ap (λ (o : Option ℕ). record { letter = o }) (get_or_noted word i (omega arith))))

-- a noted cell that agrees with the word
pub agrees_noted : (cells : List Cell) (word : List ℕ) (j : ℕ) → is_some (get_or cells j blank_cell).letter ≡ true → IfNoted (get_or word j 0) (get_or cells j blank_cell).letter → get_or cells j blank_cell ≡ noted_at word j
agrees_noted cells word j some agrees = ap (λ (o : Option ℕ). record { letter = o }) (by_letter (get_or cells j blank_cell).letter some agrees)
  where
    by_letter : (o : Option ℕ) → is_some o ≡ true → IfNoted (get_or word j 0) o → o ≡ Some (get_or word j 0)
    by_letter None some agrees = absurd (false≢true some)
    by_letter (Some x) some agrees = ap Some agrees

-- the sums are those of the cells, row by row
abbrev pub SumsOf : Arithmetic → Code → List Cell → List ℕ → Type 0
SumsOf A code cells sums = (k : ℕ) → k < length sums → get_or sums k 0 ≡ syndrome A code cells k

module _ (A : Arithmetic) (code : Code) (cells : List Cell) (sums : List ℕ) where
  pub sums_rows : sums ≡ syndromes A code cells → SumsOf A code cells sums
  sums_rows e k h = ap (λ (l : List ℕ). get_or l k 0) e ∙ get_or_syndromes A code cells k (omega (arith, ap length e, length_syndromes A code cells))

  pub sums_all : length sums ≡ code.rows → SumsOf A code cells sums → sums ≡ syndromes A code cells
  unfolding syndromes
  sums_all rows each = fill_by_all (syndrome A code cells) sums code.rows 0 rows (λ k h. each k (omega arith))

-- where a change of the cells adds x × a^k to the sum of row k, so do the sums
pub sums_more : (A : Arithmetic) (code : Code) (cells cells-after : List Cell) (sums sums-after : List ℕ) (x a : ℕ) → SumsOf A code cells sums → length sums-after ≡ length sums →
    ((k : ℕ) → k < length sums-after → get_or sums-after k 0 ≡ A.plus (get_or sums k 0) (times_power A x a k)) →
    ((k : ℕ) → syndrome A code cells-after k ≡ A.plus (syndrome A code cells k) (times_power A x a k)) → SumsOf A code cells-after sums-after
sums_more A code cells cells-after sums sums-after x a so_far long added changed k h =
    added k h ∙ ap (λ s. A.plus s (times_power A x a k)) (so_far k (omega arith)) ∙ sym (changed k)

-- a cell is erased where its locator is a root, and a blank cell stays blank
module _ (A : Arithmetic) (f locators : List ℕ) (cells : List Cell) (j : ℕ) where
  pub erased_root : root A f (get_or locators j 0) ≡ true → erased_cell A f locators cells j ≡ blank_cell
  erased_root e = ap (λ b. cond b blank_cell (get_or cells j blank_cell)) e

  pub erased_other : root A f (get_or locators j 0) ≡ false → erased_cell A f locators cells j ≡ get_or cells j blank_cell
  erased_other e = ap (λ b. cond b blank_cell (get_or cells j blank_cell)) e

  pub erased_blank : (get_or cells j blank_cell).letter ≡ None → get_or cells j blank_cell ≡ erased_cell A f locators cells j
  erased_blank e = either (root A f (get_or locators j 0))
    where
      either : (b : Bool) → get_or cells j blank_cell ≡ cond b blank_cell (get_or cells j blank_cell)
      either true = ap (λ (o : Option ℕ). record { letter = o }) e
      either false = refl
