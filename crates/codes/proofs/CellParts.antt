-- What one cell adds to the sums: noting a letter at a blank cell, and erasing a noted one.
use Rattle.std.proofs.Common.{◌≡◌, ℕ, zero, suc, ◌<◌, ◌≢◌, List, length, get_or, set, Some, None, Option, sym, refl, ap, ◌∙◌, ap₂, inl, inr, arith, length-set, get_or-set_other, get_or-set_same}
use Rattle.std.proofs.lemmas.List.{ext_get_or}
use Rattle.std.proofs.lemmas.Bool.{cases_eq}
use Rattle.algebra.specs.Meaning.{Arithmetic}
use Rattle.algebra.specs.Polynomial.{negate}
use Rattle.algebra.specs.Power.{times_power}
use Rattle.algebra.specs.Laws.{Total, RingLaws}
use Rattle.algebra.proofs.RingFacts.{plus_negate, times_power_negate}
use Rattle.algebra.proofs.Lengths.{times_power_element}
use Rattle.codes.specs.Code.{Code}
use Rattle.codes.specs.Cells.{blank_cell, noted_cell}
use Rattle.codes.specs.Sums.{add_cell, sum_to, syndrome}
use Rattle.codes.specs.declared.cell.Cell.{Cell}

-- a list with one place written, place by place
get_d_set : (cells : List Cell) (j i : ℕ) (c x : Cell) → j < length cells → (i ≡ j → c ≡ x) → (i ≢ j → get_or cells i blank_cell ≡ x) → get_or (set cells j c) i blank_cell ≡ x
get_d_set cells j i c x within here there =
    elim (cases_eq i j) [
      | inl e ↦ ap (λ k. get_or (set cells j c) k blank_cell) e ∙ get_or-set_same cells j c blank_cell within ∙ here e
      | inr other ↦ get_or-set_other cells j i c blank_cell other ∙ there other
    ]

module _ {A : Arithmetic} (total : Total A) (laws : RingLaws A) where
  module _ (code : Code) where
    -- cell j's part in the sum of row k, where it has the letter x
    abbrev pub part : ℕ → ℕ → ℕ → ℕ
    part x j k = times_power A (A.times x (get_or code.multipliers j 0)) (get_or code.locators j 0) k

    part_element : (x j k : ℕ) → part x j k < A.size
    part_element x j k = times_power_element total _ _ k (total.times_element x _)

    add_cell_element : (k i : ℕ) (o : Option ℕ) (s : ℕ) → s < A.size → add_cell A code k i o s < A.size
    add_cell_element k i None s h = h
    add_cell_element k i (Some x) s h = total.plus_element _ _

    sum_to_element : (cells : List Cell) (k i : ℕ) → sum_to A code cells k i < A.size
    unfolding sum_to
    sum_to_element cells k zero = omega (arith, total.smallest)
    sum_to_element cells k (suc i) = add_cell_element k i (get_or cells i blank_cell).letter (sum_to A code cells k i) (sum_to_element cells k i)

    -- only the cells below i count
    pub sum_to_same : (cells others : List Cell) (k i : ℕ) → ((j : ℕ) → j < i → get_or cells j blank_cell ≡ get_or others j blank_cell) → sum_to A code cells k i ≡ sum_to A code others k i
    unfolding sum_to
    sum_to_same cells others k zero e = refl
    sum_to_same cells others k (suc i) e =
        ap₂ (λ (c : Cell) s. add_cell A code k i c.letter s) (e i (omega arith)) (sum_to_same cells others k i (λ j h. e j (omega arith)))

    -- another part may be added before a cell's own
    add_cell_plus : (k i : ℕ) (o : Option ℕ) (s p : ℕ) → s < A.size → p < A.size → add_cell A code k i o (A.plus s p) ≡ A.plus (add_cell A code k i o s) p
    add_cell_plus k i None s p hs hp = refl
    add_cell_plus k i (Some x) s p hs hp =
        let q = part x i k in
        laws.plus_assoc s p q hs hp (part_element x i k)
        ∙ ap (A.plus s) (laws.plus_comm p q hp (part_element x i k))
        ∙ sym (laws.plus_assoc s q p hs (part_element x i k) hp)

    sum_to_noted : (cells : List Cell) (j x k i : ℕ) → j < length cells → (get_or cells j blank_cell).letter ≡ None → j < i →
        sum_to A code (set cells j (noted_cell x)) k i ≡ A.plus (sum_to A code cells k i) (part x j k)
    unfolding sum_to
    sum_to_noted cells j x k zero within blank below = absurd (omega arith)
    sum_to_noted cells j x k (suc i) within blank below =
        let after = set cells j (noted_cell x) in
        let s = sum_to A code cells k i in
        elim (cases_eq i j) [
          | inl e ↦
              ap₂ (λ (c : Cell) s. add_cell A code k i c.letter s) (get_d_set cells j i (noted_cell x) (noted_cell x) within (λ _. refl) (λ other. absurd (other e)))
              (sum_to_same after cells k i (λ l h. get_or-set_other cells j l (noted_cell x) blank_cell (λ same. omega arith)))
              ∙ ap₂ (λ t s. A.plus s (part x t k)) e (ap (λ o. add_cell A code k i o s) (sym (ap (λ t. (get_or cells t blank_cell).letter) e ∙ blank)))
          | inr other ↦
              ap₂ (λ (c : Cell) s. add_cell A code k i c.letter s) (get_or-set_other cells j i (noted_cell x) blank_cell other) (sum_to_noted cells j x k i within blank (omega arith))
              ∙ add_cell_plus k i (get_or cells i blank_cell).letter s (part x j k) (sum_to_element cells k i) (part_element x j k)
        ]

    -- noting a letter at a blank cell adds its part
    pub syndrome_set_noted : (cells : List Cell) (j x k : ℕ) → j < length cells → (get_or cells j blank_cell).letter ≡ None →
        syndrome A code (set cells j (noted_cell x)) k ≡ A.plus (syndrome A code cells k) (part x j k)
    syndrome_set_noted cells j x k within blank =
        ap (sum_to A code (set cells j (noted_cell x)) k) (length-set cells j (noted_cell x)) ∙ sum_to_noted cells j x k (length cells) within blank within

    -- erasing a noted cell adds its part with the other sign
    pub syndrome_set_blank : (cells : List Cell) (j x k : ℕ) → j < length cells → (get_or cells j blank_cell).letter ≡ Some x → get_or code.locators j 0 < A.size →
        syndrome A code (set cells j blank_cell) k ≡ A.plus (syndrome A code cells k) (times_power A (negate A (A.times x (get_or code.multipliers j 0))) (get_or code.locators j 0) k)
    syndrome_set_blank cells j x k within noted element =
        let after = set cells j blank_cell in
        let long : length after ≡ length cells = length-set cells j blank_cell in
        let S = syndrome A code after k in
        let p = part x j k in
        let hS = sum_to_element after k (length after) in
        let hp = part_element x j k in
        let back : set after j (noted_cell x) ≡ cells =
        ext_get_or blank_cell (set after j (noted_cell x)) cells (length-set after j (noted_cell x) ∙ long)
        (λ i h. get_d_set after j i (noted_cell x) (get_or cells i blank_cell) (omega arith)
        (λ e. ap (λ (o : Option ℕ). record { letter = o }) (sym noted) ∙ ap (λ t. get_or cells t blank_cell) (sym e))
        (λ other. get_or-set_other cells j i blank_cell blank_cell other)) in
        let whole : syndrome A code cells k ≡ A.plus S p =
        ap (λ (cs : List Cell). syndrome A code cs k) (sym back) ∙ syndrome_set_noted after j x k (omega arith) (ap (λ (c : Cell). c.letter) (get_or-set_same cells j blank_cell blank_cell within)) in
        sym (ap₂ A.plus whole (times_power_negate A total laws (A.times x (get_or code.multipliers j 0)) (get_or code.locators j 0) k (total.times_element x _) element)
        ∙ laws.plus_assoc S p (negate A p) hS hp (total.minus_element 0 p)
        ∙ ap (A.plus S) (plus_negate A total laws p hp)
        ∙ laws.plus_zero S hS)
