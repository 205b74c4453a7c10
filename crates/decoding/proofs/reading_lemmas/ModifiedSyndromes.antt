-- The modified syndromes, row by row.
use Rattle.std.proofs.Common.{◌≡◌, ℕ, ◌-◌, ◌<◌, List, length, get_or, sym, ◌∙◌, subst, ap₂, zero-add, arith}
use Rattle.std.proofs.lemmas.List.FromFn.{fill_by_all, get_or-map-range_with_len, length-map-range_with_len}
use Rattle.algebra.specs.Meaning.{Arithmetic}
use Rattle.algebra.specs.Laws.{Total}
use Rattle.algebra.specs.Polynomial.{act}
use Rattle.algebra.proofs.Lengths.{act_element}
use Rattle.codes.specs.Code.{Code}
use Rattle.codes.specs.Cells.{blanks}
use Rattle.decoding.specs.filling.Fillings.{number_at, annihilator_below}
use Rattle.minimal_pairs.specs.MinimalPair.{OfElements}
use Rattle.codes.specs.Sums.{syndromes}
use Rattle.codes.specs.declared.cell.Cell.{Cell}
use Rattle.decoding.specs.reading.Decoding.{modified_syndrome, modified_syndromes}

module _ (A : Arithmetic) (code : Code) (cells : List Cell) where
  pub length_modified : length (modified_syndromes A code cells) ≡ code.rows - blanks cells
  unfolding modified_syndromes
  length_modified = length-map-range_with_len (modified_syndrome A code cells) 0 (code.rows - blanks cells)

  pub get_or_modified : (k : ℕ) → k < length (modified_syndromes A code cells) → get_or (modified_syndromes A code cells) k 0 ≡ modified_syndrome A code cells k
  unfolding modified_syndromes
  get_or_modified k h = get_or-map-range_with_len (modified_syndrome A code cells) 0 (code.rows - blanks cells) k k 0 (omega (arith, length_modified)) (zero-add k)

  pub modified_elements : Total A → OfElements A (modified_syndromes A code cells)
  modified_elements total k h = subst (λ (x : ℕ). x < A.size) (sym (get_or_modified k h)) (act_element total _ _ k)

  pub modified_are : (p sums modified : List ℕ) → p ≡ annihilator_below A code.locators cells (length cells) → sums ≡ syndromes A code cells →
      length modified ≡ code.rows - blanks cells → ((k : ℕ) → k < length modified → get_or modified k 0 ≡ act A p (number_at sums) k) →
      modified ≡ modified_syndromes A code cells
  unfolding modified_syndromes
  modified_are p sums modified product summed long each =
      fill_by_all (modified_syndrome A code cells) modified (code.rows - blanks cells) 0 long
      (λ k h. each k (omega arith) ∙ ap₂ (λ (p sums : List ℕ). act A p (number_at sums) k) product summed)
