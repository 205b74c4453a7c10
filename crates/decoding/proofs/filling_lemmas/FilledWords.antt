-- What the filled letters are: every codeword that agrees with the noted cells has them, and with as many blanks as rows they
-- make all sums 0.
use Rattle.std.proofs.Common.{◌≡◌, ℕ, zero, suc, pred, ◌+◌, ◌<◌, ◌≤◌, Bool, true, false, cond, not, ◌⊎◌, List, map, length, get_or, is_some, Some, None, Option, unwrap_or, sym, refl, ap, ◌∙◌, subst, inl, inr, le_refl, zero-add, arith}
use lib.ListN.{length-map}
use Rattle.std.proofs.lemmas.Bool.{both_ways, cases_Bool, cond-true, cond-false}
use Rattle.std.proofs.lemmas.List.FromFn.{fill_by_all, get_or-map-range_with_len, length-map-range_with_len}
use Rattle.algebra.specs.Meaning.{Arithmetic, Meaning}
use Rattle.algebra.specs.Laws.{Laws}
use Rattle.algebra.specs.Places.{Member, member}
use Rattle.algebra.specs.Power.{times_power, sum}
use Rattle.algebra.specs.Polynomial.{negate, evaluate, annihilator, divide}
use Rattle.algebra.specs.Theorems.{Locators, Multipliers, DistinctPlaces, cofactor, erased_letter, noted_sum, word_sum}
use Rattle.algebra.proofs.Places.{member_if, member_only, member_not}
use Rattle.algebra.proofs.Counts.{failing_only, failing_if, distinct_failing}
use Rattle.algebra.proofs.Lengths.{length_annihilator, length_quotient_linear, sum_element}
use Rattle.algebra.proofs.Terms.{sum_cong, act_cong}
use Rattle.algebra.proofs.Numbers.{filling_only, filling_makes}
use Rattle.codes.specs.Code.{Code}
use Rattle.codes.specs.Checked.{Checked}
use Rattle.codes.specs.Cells.{blank_cell, blanks}
use Rattle.codes.specs.Codeword.{Codeword, row_sum}
use Rattle.codes.specs.Sums.{sum_to, add_cell, syndromes}
use Rattle.codes.specs.Standings.{BelowIfNoted, Lettered}
use Rattle.decoding.specs.filling.Fillings.{number_at, blank_places, filled_letter, filled, IfNoted, Agrees, FillsOnly, FillsToZero, FillingLaws}
use Rattle.codes.specs.declared.cell.Cell.{Cell}
use Rattle.decoding.proofs.filling_lemmas.Blanks.{length_blank_places}
use Rattle.codes.proofs.Codewords.{get_or_syndromes}

-- the formula reads as many sums as places are erased
letter_same : (m : Meaning) (a h : ℕ → ℕ) (E : List ℕ) (s t : ℕ → ℕ) (j : ℕ) → ((i : ℕ) → i < length E → s i ≡ t i) →
    erased_letter m a h E s j ≡ erased_letter m a h E t j
letter_same m a h E s t j e =
    let A = m.arithmetic in
    let P = cofactor A a E j in
    let long : length P ≡ pred (suc (length E)) =
    length_quotient_linear A (a j) (annihilator A (map a E)) ∙ ap pred (length_annihilator A (map a E) ∙ ap suc (length-map E a)) in
    ap (λ x. divide m (negate A x) (A.times (h j) (evaluate A P (a j)))) (act_cong A P s t 0 (λ i h. e (0 + i) (omega arith)))

-- a place is erased where the cell is blank
module _ (cells : List Cell) (j : ℕ) (h : j < length cells) where
  abbrev letter : Option ℕ
  letter = (get_or cells j blank_cell).letter

  member_blank : is_some letter ≡ false → Member j (blank_places cells)
  member_blank e = failing_if (length cells) _ j h e

  blank_member : Member j (blank_places cells) → is_some letter ≡ false
  blank_member m = (failing_only (length cells) _ j m).1

  member_is : member j (blank_places cells) ≡ not (is_some letter)
  member_is =
      elim (cases_Bool (is_some letter)) [
        | inl e ↦ member_not j (blank_places cells) (λ m. both_ways _ (blank_member m) e) ∙ ap not (sym e)
        | inr e ↦ member_if j (blank_places cells) (member_blank e) ∙ ap not (sym e)
      ]

-- by a cell's letter: the part in a sum, the filled letter, and the noted letter
part : {m : Meaning} (laws : Laws m) (code : Code) (k j : ℕ) (o : Option ℕ) (b : Bool) (s : ℕ) → b ≡ not (is_some o) → s < m.arithmetic.size →
    m.arithmetic.plus s
    (cond b 0 (times_power m.arithmetic (m.arithmetic.times (unwrap_or o 0) (get_or code.multipliers j 0)) (get_or code.locators j 0) k))
    ≡ add_cell m.arithmetic code k j o s
part {m} laws code k j None b s e h = ap (λ x. m.arithmetic.plus s x) (cond-true b _ _ e) ∙ laws.ring.plus_zero s h
part {m} laws code k j (Some x) b s e h = ap (λ x. m.arithmetic.plus s x) (cond-false b _ _ e)

by_letter : (o : Option ℕ) (b : Bool) (x y : ℕ) → b ≡ not (is_some o) → x ≡ y → unwrap_or o x ≡ cond b y (unwrap_or o 0)
by_letter None b x y e p = p ∙ sym (cond-true b _ _ e)
by_letter (Some z) b x y e p = sym (cond-false b _ _ e)

noted_is : (o : Option ℕ) (x : ℕ) → (is_some o ≡ false → ⊥) → IfNoted x o → unwrap_or o 0 ≡ x
noted_is None x noted agrees = absurd (noted refl)
noted_is (Some z) x noted agrees = agrees

noted_below : (o : Option ℕ) (size : ℕ) → (is_some o ≡ false → ⊥) → BelowIfNoted size o → unwrap_or o 0 < size
noted_below None size noted below = absurd (noted refl)
noted_below (Some z) size noted below = below

module _ {m : Meaning} {code : Code} (checked : Checked m code) (cells : List Cell) (long : length cells ≡ length code.locators) where
  abbrev A : Arithmetic
  A = m.arithmetic

  abbrev n : ℕ
  n = length cells

  abbrev a : ℕ → ℕ
  a = number_at code.locators

  abbrev h : ℕ → ℕ
  h = number_at code.multipliers

  abbrev E : List ℕ
  E = blank_places cells

  abbrev u : ℕ → ℕ
  u j = unwrap_or (get_or cells j blank_cell).letter 0

  pub locators : Locators A n a
  locators = subst (λ i. Locators A i a) (sym long) checked.locators

  pub multipliers : Multipliers A n h
  multipliers = subst (λ i. Multipliers A i h) (checked.shape.a_multiplier_each ∙ sym long) checked.multipliers

  pub places : DistinctPlaces n E
  places = record { below = λ j m. (failing_only n _ j m).0; distinct = distinct_failing n _ }

  -- the syndrome is the sum over the places that are not erased
  sum_to_is : (k j : ℕ) → j ≤ n →
      sum A j (λ i. cond (member i E) 0 (times_power A (A.times (u i) (h i)) (a i) k)) ≡ sum_to A code cells k j
  unfolding sum_to
  sum_to_is k zero within = refl
  sum_to_is k (suc j) within =
      part checked.laws code k j (get_or cells j blank_cell).letter (member j E) _ (member_is cells j within)
      (sum_element checked.laws.total j _)
      ∙ ap (add_cell A code k j (get_or cells j blank_cell).letter) (sum_to_is k j (omega arith))

  pub noted_sum_is : (k : ℕ) → k < code.rows → noted_sum A n a h E u k ≡ number_at (syndromes A code cells) k
  noted_sum_is k below = sum_to_is k n (le_refl n) ∙ sym (get_or_syndromes A code cells k below)

  module _ (few : blanks cells ≤ code.rows) where
    letter_is : (j : ℕ) → j < n →
        filled_letter m code cells (syndromes A code cells) j ≡ cond (member j E) (erased_letter m a h E (noted_sum A n a h E u) j) (u j)
    unfolding filled_letter
    letter_is j within =
        by_letter (get_or cells j blank_cell).letter (member j E) _ _ (member_is cells j within)
        (letter_same m a h E _ _ j (λ i below. sym (noted_sum_is i (omega (arith, length_blank_places cells)))))

    only : (word : List ℕ) → Codeword A code word → Agrees cells word → word ≡ filled m code cells (syndromes A code cells)
    unfolding filled
    only word codeword agrees = fill_by_all _ word n 0 as_long (λ j within. at j within (cases_Bool (member j E)) ∙ sym (letter_is j within))
      where
        as_long : length word ≡ n
        as_long = codeword.long ∙ sym long

        zeros : (k : ℕ) → k < code.rows → word_sum A n a h (number_at word) k ≡ 0
        zeros k below = ap (λ i. word_sum A i a h (number_at word) k) (sym as_long) ∙ codeword.zeros k below

        agreed : (j : ℕ) → j < n → (Member j E → ⊥) → u j ≡ number_at word j
        agreed j within out = noted_is _ _ (λ e. out (member_blank cells j within e)) (agrees j within)

        at : (j : ℕ) → j < n → (member j E ≡ true) ⊎ (member j E ≡ false) →
            number_at word j ≡ cond (member j E) (erased_letter m a h E (noted_sum A n a h E u) j) (u j)
        at j within (inl e) =
            filling_only checked.laws n code.rows a h u (number_at word) E locators multipliers
            (λ i below. omega (arith, codeword.lettered i (omega arith), checked.alphabet.elements)) places
            (omega (arith, length_blank_places cells)) zeros agreed j (member_only j E e)
            ∙ sym (cond-true _ _ _ e)
        at j within (inr e) = sym (agreed j within (λ mj. both_ways _ e (member_if j E mj))) ∙ sym (cond-false _ _ _ e)

  to_zero : blanks cells ≡ code.rows → Lettered A.size cells → (k : ℕ) → k < code.rows →
      row_sum A code (filled m code cells (syndromes A code cells)) k ≡ 0
  unfolding filled
  to_zero all lettered k below =
      let letters = filled_letter m code cells (syndromes A code cells) in
      ap (λ i. word_sum A i a h (number_at (filled m code cells (syndromes A code cells))) k) (length-map-range_with_len letters 0 n)
      ∙ sum_cong A n _ _ (λ j within. ap (λ x. times_power A (A.times x (h j)) (a j) k)
      (get_or-map-range_with_len letters 0 n j j 0 within (zero-add j) ∙ letter_is (omega arith) j within))
      ∙ filling_makes checked.laws n a h u E locators multipliers
      (λ j within out. noted_below _ A.size (λ e. out (member_blank cells j within e)) (lettered j within)) places k
      (omega (arith, length_blank_places cells))

pub fills_only : (m : Meaning) (code : Code) → Checked m code → FillsOnly m code
fills_only m code checked cells long few = only checked cells long few

pub fills_to_zero : (m : Meaning) (code : Code) → Checked m code → FillsToZero m code
fills_to_zero m code checked cells long = to_zero checked cells long

pub filling_laws : (m : Meaning) (code : Code) → Checked m code → FillingLaws m code
filling_laws m code checked = record { only = fills_only m code checked; zeros = fills_to_zero m code checked }
