-- A codeword and the cells that it was noted in: errors and erasures by places, and that at most one codeword is near.
use Rattle.std.proofs.Common.{◌≡◌, ℕ, zero, suc, ◌+◌, ◌<◌, ◌≤◌, Bool, true, false, cond, eqb, List, [], ◌∷◌, length, get_or, is_some, Some, None, Option, unwrap_or, sym, refl, ap, ◌∙◌, subst, ap₂, arith}
use Rattle.std.proofs.lemmas.List.{ext_get_or}
use Rattle.std.proofs.lemmas.Bool.{true≢false}
use Rattle.algebra.specs.Meaning.{Meaning}
use Rattle.algebra.specs.Places.{member, failures}
use Rattle.algebra.specs.Theorems.{Elements, Locators, Multipliers, DistinctPlaces}
use Rattle.algebra.specs.ErrorLocators.{errors, Received}
use Rattle.algebra.proofs.Places.{member_if, member_not}
use Rattle.algebra.proofs.Counts.{failing_only, failing_if}
use Rattle.algebra.proofs.Decoding.{only_near}
use Rattle.codes.specs.Code.{Code}
use Rattle.codes.specs.Checked.{Checked}
use Rattle.codes.specs.Cells.{blank_cell}
use Rattle.codes.specs.Codeword.{Codeword}
use Rattle.decoding.specs.filling.Fillings.{number_at, blank_places}
use Rattle.codes.specs.Standings.{BelowIfNoted, Lettered}
use Rattle.codes.specs.declared.cell.Cell.{Cell}
use Rattle.decoding.proofs.filling_lemmas.FilledWords as filled_words
use Rattle.decoding.proofs.filling_lemmas.Blanks.{failures_front, length_blank_places}
use Rattle.decoding.specs.reading.Reading.{wrong, one_if_wrong, Near}

-- the noted letter, or 0
abbrev pub letter_or_zero : List Cell → ℕ → ℕ
letter_or_zero cells j = unwrap_or (get_or cells j blank_cell).letter 0

failures_same : (n : ℕ) (s t : ℕ → Bool) → ((j : ℕ) → j < n → s j ≡ t j) → failures n s ≡ failures n t
failures_same zero s t e = refl
failures_same (suc n) s t e = ap₂ (λ b f. cond b f (suc f)) (e n (omega arith)) (failures_same n s t (λ j h. e j (omega arith)))

-- blank, or the word's letter
abbrev pub agree : Option ℕ → ℕ → Bool
agree None x = true
agree (Some letter) x = eqb letter x

one_wrong : (letter : Option ℕ) (x : ℕ) → cond (agree letter x) 0 1 ≡ one_if_wrong letter x
one_wrong None x = refl
one_wrong (Some letter) x = refl

wrong_count : (cells : List Cell) (word : List ℕ) → length word ≡ length cells → failures (length cells) (λ j. agree (get_or cells j blank_cell).letter (get_or word j 0)) ≡ wrong cells word
wrong_count [] word e = refl
wrong_count (cell ∷ cells) [] e = absurd (omega arith)
wrong_count (cell ∷ cells) (x ∷ word) e =
    failures_front (length cells) (λ j. agree (get_or (cell ∷ cells) j blank_cell).letter (get_or (x ∷ word) j 0))
    ∙ ap₂ ◌+◌ (one_wrong cell.letter x) (wrong_count cells word (omega arith))

agree_tests : (letter : Option ℕ) (x : ℕ) (erased : Bool) → (is_some letter ≡ false → erased ≡ true) → (is_some letter ≡ true → erased ≡ false) → cond erased true (eqb (unwrap_or letter 0) x) ≡ agree letter x
agree_tests None x erased blank noted = ap (λ b. cond b true (eqb 0 x)) (blank refl)
agree_tests (Some letter) x erased blank noted = ap (λ b. cond b true (eqb letter x)) (noted refl)

module _ (cells : List Cell) where
  blank_member : (j : ℕ) → j < length cells → is_some (get_or cells j blank_cell).letter ≡ false → member j (blank_places cells) ≡ true
  blank_member j h e = member_if j (blank_places cells) (failing_if (length cells) _ j h e)

  noted_member : (j : ℕ) → is_some (get_or cells j blank_cell).letter ≡ true → member j (blank_places cells) ≡ false
  noted_member j e = member_not j (blank_places cells) (λ is. true≢false (sym e ∙ (failing_only (length cells) _ j is).1))

  -- the errors are the wrong cells
  pub errors_are : (word : List ℕ) → length word ≡ length cells → errors (length cells) (blank_places cells) (letter_or_zero cells) (number_at word) ≡ wrong cells word
  errors_are word long =
      failures_same (length cells) _ _ (λ j h. agree_tests (get_or cells j blank_cell).letter (get_or word j 0) (member j (blank_places cells)) (blank_member j h) (noted_member j))
      ∙ wrong_count cells word long

letter_below : (letter : Option ℕ) (letters size : ℕ) → letters ≤ size → 0 < size → BelowIfNoted letters letter → unwrap_or letter 0 < size
letter_below None letters size most some below = some
letter_below (Some x) letters size most some below = omega arith

module _ (m : Meaning) (code : Code) (checked : Checked m code) (cells : List Cell) (long : length cells ≡ length code.locators) (lettered : Lettered code.letters cells) where
  n : ℕ
  n = length cells

  -- a codeword, received in the cells
  pub received : (word : List ℕ) → Codeword m.arithmetic code word → Received m.arithmetic (length cells) code.rows (number_at code.locators) (number_at code.multipliers) (letter_or_zero cells) (number_at word) (blank_places cells)
  received word c =
      let A = m.arithmetic in
      let size = checked.laws.total.smallest in
      let most = checked.alphabet.elements in
      record {
        locators = filled_words.locators checked cells long;
        multipliers = filled_words.multipliers checked cells long;
        erased = filled_words.places checked cells long;
        noted = λ j h outside. letter_below (get_or cells j blank_cell).letter code.letters A.size most (omega arith) (lettered j h);
        letters = λ j h. let below = c.lettered j (omega (arith, c.long)) in omega arith;
        codeword = λ k h. subst (λ (n : ℕ). Rattle.algebra.specs.Theorems.word_sum A n (number_at code.locators) (number_at code.multipliers) (number_at word) k ≡ 0) (c.long ∙ sym long) (c.zeros k h);
      }

  -- at most one codeword is near
  pub near_only : (v w : List ℕ) → Near m.arithmetic code cells v → Near m.arithmetic code cells w → v ≡ w
  near_only v w near-v near-w =
      let long-v = near-v.codeword.long in
      let long-w = near-w.codeword.long in
      let errors-v = errors_are cells v (long-v ∙ sym long) in
      let errors-w = errors_are cells w (long-w ∙ sym long) in
      let close-v = near-v.close in
      let close-w = near-w.close in
      let few = length_blank_places cells in
      ext_get_or 0 v w (long-v ∙ sym long-w)
      (λ j h. only_near checked.laws _ _ _ _ _ _ _ _ (received v near-v.codeword) (received w near-w.codeword) (omega arith) j (omega arith))
