-- Decoding is sound, by the last test, and complete: where a codeword is near, it is the filled word.
use Rattle.std.proofs.Common.{◌≡◌, ℕ, suc, ◌-◌, ◌*◌, ◌<◌, ◌≤◌, List, length, get_or, take, Some, None, Option, unwrap_or, sym, refl, ap, ◌∙◌, subst, zero-add, arith}
use Rattle.std.proofs.lemmas.List.FromFn.{get_or-map-range_with_len, length-map-range_with_len}
use Rattle.algebra.specs.Meaning.{Arithmetic, Meaning}
use Rattle.codes.specs.Code.{Code}
use Rattle.codes.specs.Checked.{Checked}
use Rattle.codes.specs.Cells.{blank_cell, blanks, noted}
use Rattle.decoding.specs.filling.Fillings.{annihilator_below, filled, filled_letter, Agrees, IfNoted}
use Rattle.codes.specs.Sums.{syndromes}
use Rattle.codes.specs.Standings.{Lettered, AllZero}
use Rattle.codes.specs.declared.cell.Cell.{Cell}
use Rattle.codes.proofs.Words.{syndrome_noted}
use Rattle.codes.proofs.Codewords.{get_or_syndromes, length_syndromes, noted_zeros}
use Rattle.decoding.specs.reading.Reading.{Near}
use Rattle.decoding.specs.reading.Erasing.{erased}
use Rattle.decoding.specs.reading.Decoding.{modified_syndromes, Locates, Passes, Accepted, Decoded}
use Rattle.decoding.proofs.reading_lemmas.ModifiedSyndromes.{length_modified, get_or_modified}
use Rattle.decoding.proofs.reading_lemmas.ErasedRoots

-- the filled letters
module _ (m : Meaning) (code : Code) (cells : List Cell) (sums : List ℕ) where
  pub length_filled : length (filled m code cells sums) ≡ length cells
  unfolding filled
  length_filled = length-map-range_with_len (filled_letter m code cells sums) 0 (length cells)

  if_noted : (o : Option ℕ) (x : ℕ) → IfNoted (unwrap_or o x) o
  if_noted None x = tt
  if_noted (Some letter) x = refl

  -- keep the noted ones
  pub filled_agrees : Agrees cells (filled m code cells sums)
  unfolding filled filled_letter
  filled_agrees j h =
      subst (λ (x : ℕ). IfNoted x (get_or cells j blank_cell).letter) (sym (get_or-map-range_with_len (filled_letter m code cells sums) 0 (length cells) j j 0 h (zero-add j)))
      (if_noted (get_or cells j blank_cell).letter _)

module _ (m : Meaning) (code : Code) (checked : Checked m code) (cells : List Cell) (long : length cells ≡ length code.locators) (lettered : Lettered code.letters cells)
    (few : blanks cells ≤ code.rows) (d : ℕ) (f : List ℕ) (locates : Locates m.arithmetic code cells d f) where
  abbrev A : Arithmetic
  A = m.arithmetic

  abbrev T : List ℕ
  T = modified_syndromes A code cells

  -- the cells that are left noted
  abbrev pub left : List Cell
  left = erased A (take (suc d) f) code.locators cells

  -- no more are erased than there are rows
  pub left_few : 2 * d ≤ code.rows - blanks cells → blanks left ≤ code.rows
  unfolding annihilator_below
  left_few small =
      let more = ErasedRoots.blanks_erased A (take (suc d) f) code.locators cells in
      let roots = ErasedRoots.roots_few m code checked cells long lettered few T (length_modified A code cells) (get_or_modified A code cells) d f locates.0 locates.1 in
      omega arith

  -- no codeword is near where the degree is too high
  pub none_near : code.rows - blanks cells < 2 * d → (word : List ℕ) → Near A code cells word → ⊥
  unfolding annihilator_below
  none_near high word near =
      let degree = ErasedRoots.degree_few m code checked cells long lettered few T (length_modified A code cells) (get_or_modified A code cells) d f locates.0 locates.1 word near in
      let close = near.close in
      omega arith

  module _ (word : List ℕ) (word-is : word ≡ filled m code left (syndromes A code left)) (sums : List ℕ) (sums_are : sums ≡ syndromes A code (noted word)) where
    found : (other : List ℕ) → Near A code cells other → other ≡ word
    unfolding annihilator_below
    found other near =
        ErasedRoots.filled_is m code checked cells long lettered few T (length_modified A code cells) (get_or_modified A code cells) d f locates.0 locates.1 other near ∙ sym word-is

    near_from : Passes code cells word sums → Near A code cells word
    near_from passes = record {
      codeword = record {
        long = ap length word-is ∙ length_filled m code left (syndromes A code left) ∙ ErasedRoots.length_erased A (take (suc d) f) code.locators cells ∙ long;
        lettered = passes.lettered;
        zeros = λ k h. sym (syndrome_noted A code word k) ∙ sym (get_or_syndromes A code (noted word) k h)
            ∙ ap (λ (l : List ℕ). get_or l k 0) (sym sums_are) ∙ passes.zeros k (omega (arith, ap length sums_are, length_syndromes A code (noted word)));
      };
      close = passes.close;
    }

    passes_from : Near A code cells word → Passes code cells word sums
    passes_from near = record {
      lettered = near.codeword.lettered;
      zeros = subst AllZero (sym sums_are) (noted_zeros A code word near.codeword);
      close = near.close;
    }

    pub decoded : (r : Option ℕ) → Accepted code cells word sums r → Decoded A code cells word r
    decoded (Some count) (passes, count-is) = (near_from passes, count-is)
    decoded None refused = λ other near. refused (passes_from (subst (Near A code cells) (found other near) near))
