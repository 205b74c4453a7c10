-- That no codeword is near, by the steps of reading: a high degree, or a found word that does not pass.
use Rattle.std.proofs.Common.{◌≡◌, ℕ, suc, ◌-◌, ◌*◌, ◌<◌, ◌≤◌, true, List, length, take, None, sym, refl, ap, ◌∙◌, subst}
use Rattle.algebra.specs.Meaning.{Arithmetic, Meaning}
use Rattle.algebra.specs.Realisation.{Minimal}
use Rattle.minimal_pairs.specs.MinimalPair.{state_after}
use Rattle.codes.specs.Code.{Code}
use Rattle.codes.specs.Checked.{Checked}
use Rattle.codes.specs.Cells.{blanks, noted}
use Rattle.codes.specs.Sums.{syndromes}
use Rattle.codes.specs.declared.cell.Cell.{Cell}
use Rattle.decoding.specs.filling.Fillings.{filled}
use Rattle.decoding.specs.reading.Reading.{Near}
use Rattle.decoding.specs.reading.Erasing.{erased}
use Rattle.decoding.specs.reading.Decoding.{modified_syndromes, Locates, Passes}
use Rattle.decoding.proofs.reading_lemmas.Realised.{minimal_pair}
use Rattle.decoding.proofs.reading_lemmas.Decoding as decoding
use Rattle.hand_tried.proofs.NearWords.{all_lettered, lettered_by}

module _ (m : Meaning) (code : Code) (checked : Checked m code) (cells : List Cell) (long : length cells ≡ length code.locators) (letters : all_lettered code.letters cells ≡ true)
    (few : blanks cells ≤ code.rows) (T : List ℕ) (T-is : modified_syndromes m.arithmetic code cells ≡ T) (d : ℕ) (d_is : (state_after m.arithmetic T (length T)).degree ≡ d) where
  abbrev A : Arithmetic
  A = m.arithmetic

  abbrev coeffs : List ℕ
  coeffs = (state_after A T (length T)).pair.f.coeffs

  locates : Locates A code cells d coeffs
  locates =
      let w = (state_after A T (length T)).pair.w.coeffs in
      let found = subst (λ (T : List ℕ). Minimal A (modified_syndromes A code cells) (state_after A T (length T)).degree (state_after A T (length T)).pair.f.coeffs (state_after A T (length T)).pair.w.coeffs) T-is (minimal_pair checked cells) in
      (w, subst (λ (d : ℕ). Minimal A (modified_syndromes A code cells) d coeffs w) d_is found)

  pub none_by_degree : code.rows - blanks cells < 2 * d → (word : List ℕ) → Near A code cells word → ⊥
  none_by_degree = decoding.none_near m code checked cells long (lettered_by code.letters cells letters) few d coeffs locates

  pub none_by_word : (f : List ℕ) → take (suc d) coeffs ≡ f → (rest : List Cell) → erased A f code.locators cells ≡ rest → (word : List ℕ) → filled m code rest (syndromes A code rest) ≡ word →
      (Passes code cells word (syndromes A code (noted word)) → ⊥) → (other : List ℕ) → Near A code cells other → ⊥
  none_by_word f f-is rest rest-is word word-is fails =
      let left_is : erased A (take (suc d) coeffs) code.locators cells ≡ rest = ap (λ (g : List ℕ). erased A g code.locators cells) f-is ∙ rest-is in
      decoding.decoded m code checked cells long (lettered_by code.letters cells letters) few d coeffs locates word
      (sym word-is ∙ ap (λ (rest : List Cell). filled m code rest (syndromes A code rest)) (sym left_is)) (syndromes A code (noted word)) refl None fails
