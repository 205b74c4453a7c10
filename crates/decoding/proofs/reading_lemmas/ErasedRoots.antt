-- Where a codeword is near the cells, a minimal realisation of the modified syndromes is 0 at every wrong cell, and filling the
-- cells without its roots gives the codeword.
use Rattle.std.proofs.Common.{◌≡◌, ℕ, suc, ◌+◌, ◌-◌, ◌<◌, ◌≤◌, Bool, true, false, cond, not, List, map, length, get_or, take, is_some, Some, None, Option, unwrap_or, sym, refl, ap, ◌∙◌, subst, ⊎_elim, zero-add, arith}
use lib.ListN.{length-map}
use Rattle.std.proofs.lemmas.List.{get_or-take, length-take-le, get_or_past}
use Rattle.std.proofs.lemmas.List.FromFn.{get_or-map-range_with_len, length-map-range_with_len}
use Rattle.std.proofs.lemmas.Bool.{cases_lt, cases_eq, eqb-true, eq-eqb, true≢false, false≢true}
use Rattle.algebra.specs.Meaning.{Arithmetic, Meaning}
use Rattle.algebra.specs.Places.{Member, failures, failing}
use Rattle.algebra.specs.Polynomial.{AllElements, annihilator, act}
use Rattle.algebra.specs.ErrorLocators.{agrees, errors, modified_sum, FitsModified}
use Rattle.algebra.specs.Realisation.{Degree, Fits, Minimal}
use Rattle.algebra.proofs.Counts.{failing_only, distinct_failing, length_failing, failures_two}
use Rattle.algebra.proofs.Lengths.{length_annihilator, annihilator_elements, act_element}
use Rattle.algebra.proofs.Numbers.{annihilator_monic}
use Rattle.algebra.proofs.Decoding.{error_locator, error_roots, few_roots}
use Rattle.algebra.proofs.Coefficients.{all_elements}
use Rattle.algebra.proofs.Terms.{act_cong}
use Rattle.algebra.proofs.Applied.{applied_take, act_applied}
use Rattle.codes.specs.Code.{Code}
use Rattle.codes.specs.Checked.{Checked}
use Rattle.codes.specs.Cells.{blank_cell, blanks}
use Rattle.decoding.specs.filling.Fillings.{number_at, blank_places, Agrees, IfNoted, filled}
use Rattle.codes.specs.Sums.{syndromes}
use Rattle.codes.specs.Standings.{Lettered}
use Rattle.codes.specs.declared.cell.Cell.{Cell}
use Rattle.decoding.proofs.filling_lemmas.Blanks.{length_blank_places, blanks_are}
use Rattle.decoding.proofs.filling_lemmas.FilledWords.{noted_sum_is, fills_only, locators as filled_locators}
use Rattle.decoding.specs.reading.Reading.{wrong, Near}
use Rattle.decoding.specs.reading.Erasing.{root, erased_cell, erased}
use Rattle.decoding.proofs.reading_lemmas.NearWords.{letter_or_zero, errors_are, received}

-- the erased cells
module _ (A : Arithmetic) (f locators : List ℕ) (cells : List Cell) where
  pub length_erased : length (erased A f locators cells) ≡ length cells
  unfolding erased
  length_erased = length-map-range_with_len (erased_cell A f locators cells) 0 (length cells)

  pub get_or_erased : (j : ℕ) → j < length cells → get_or (erased A f locators cells) j blank_cell ≡ erased_cell A f locators cells j
  unfolding erased
  get_or_erased j h = get_or-map-range_with_len (erased_cell A f locators cells) 0 (length cells) j j blank_cell h (zero-add j)

  -- an erased cell was blank, or its locator is a root
  noted_still : (j : ℕ) → j < length cells → is_some (get_or cells j blank_cell).letter ≡ true → not (root A f (get_or locators j 0)) ≡ true → is_some (get_or (erased A f locators cells) j blank_cell).letter ≡ true
  noted_still j h noted no-root = ap (λ (c : Cell). is_some c.letter) (get_or_erased j h ∙ kept (root A f (get_or locators j 0)) no-root) ∙ noted
    where
      kept : (b : Bool) → not b ≡ true → cond b blank_cell (get_or cells j blank_cell) ≡ get_or cells j blank_cell
      kept true e = absurd (false≢true e)
      kept false e = refl

  -- there are at most as many more blanks as roots
  pub blanks_erased : blanks (erased A f locators cells) ≤ blanks cells + failures (length cells) (λ j. not (root A f (get_or locators j 0)))
  blanks_erased =
      let after = blanks_are (erased A f locators cells) in
      let before = blanks_are cells in
      let more = failures_two (length cells) (λ j. is_some (get_or cells j blank_cell).letter) (λ j. not (root A f (get_or locators j 0))) (λ j. is_some (get_or (erased A f locators cells) j blank_cell).letter) (λ j h. noted_still j h) in
      omega (arith, ap (λ n. failures n (λ j. is_some (get_or (erased A f locators cells) j blank_cell).letter)) (sym length_erased) ∙ after)

module _ (m : Meaning) (code : Code) (checked : Checked m code) (cells : List Cell) (long : length cells ≡ length code.locators) (lettered : Lettered code.letters cells) (few : blanks cells ≤ code.rows)
    (T : List ℕ) (T-long : length T ≡ code.rows - blanks cells)
    (T-is : (k : ℕ) → k < length T → get_or T k 0 ≡ act m.arithmetic (annihilator m.arithmetic (map (number_at code.locators) (blank_places cells))) (number_at (syndromes m.arithmetic code cells)) k)
  where
    abbrev A : Arithmetic
    A = m.arithmetic

    abbrev n : ℕ
    n = length cells

    abbrev a : ℕ → ℕ
    a = number_at code.locators

    abbrev h : ℕ → ℕ
    h = number_at code.multipliers

    abbrev E : List ℕ
    E = blank_places cells

    abbrev u : ℕ → ℕ
    u = letter_or_zero cells

    -- T is the modified syndromes
    T_modified : (k : ℕ) → k < length T → get_or T k 0 ≡ modified_sum A n a h E u k
    T_modified k below =
        T-is k below
        ∙ act_cong A (annihilator A (map a E)) _ _ k
        (λ i h. sym (noted_sum_is checked cells long (k + i) (omega (arith, length_annihilator A (map a E), length-map E a, length_blank_places cells))))

    pub T_elements : AllElements A T
    T_elements = all_elements checked.laws.total T (λ i below. subst (λ (x : ℕ). x < A.size) (sym (T-is i below)) (act_element checked.laws.total (annihilator A (map a E)) _ i))

    fits_from : (p : List ℕ) (e : ℕ) → length p ≡ suc e → AllElements A p → FitsModified A n code.rows a h u E p → Fits A T p e
    fits_from p e size elements modified k within =
        sym (act_applied checked.laws.total checked.laws.ring p T elements T_elements e k (omega arith))
        ∙ act_cong A p (number_at T) (modified_sum A n a h E u) k (λ i h. T_modified (k + i) (omega arith))
        ∙ modified k (omega (arith, length_blank_places cells))

    fits_to : (p : List ℕ) (e : ℕ) → length p ≡ suc e → AllElements A p → Fits A T p e → FitsModified A n code.rows a h u E p
    fits_to p e size elements fits k within =
        let below : k + e < length T = omega (arith, length_blank_places cells) in
        sym (act_cong A p (number_at T) (modified_sum A n a h E u) k (λ i h. T_modified (k + i) (omega arith)))
        ∙ act_applied checked.laws.total checked.laws.ring p T elements T_elements e k (omega arith)
        ∙ fits k below

    module _ (d : ℕ) (f w : List ℕ) (minimal : Minimal A T d f w) where
      abbrev p : List ℕ
      p = take (suc d) f

      within : d < length f
      within = ⊎_elim (λ lt. lt) (λ past. absurd (minimal.degree.leads (get_or_past f d 0 past))) (cases_lt d (length f))

      p_long : length p ≡ suc d
      p_long = length-take-le (suc d) f within

      p_elements : AllElements A p
      p_elements k = ⊎_elim (λ lt. subst (λ (x : ℕ). x < A.size) (sym (get_or-take (suc d) f k 0 lt)) (minimal.degree.elements k)) (λ past. let zero = get_or_past p k 0 (omega (arith, p_long)) in let some = checked.laws.total.smallest in omega arith) (cases_lt k (suc d))

      p_fits : Fits A T p d
      p_fits k below = applied_take A f T d k ∙ minimal.fits k below

      -- few cells are erased
      pub roots_few : failures n (λ j. not (root A p (get_or code.locators j 0))) ≤ d
      roots_few =
          let Z = failing n (λ j. not (root A p (get_or code.locators j 0))) in
          let less = few_roots checked.laws n d a Z p (filled_locators checked cells long)
          (record { below = λ j is. (failing_only n _ j is).0; distinct = distinct_failing n _ }) p_elements
          (λ j is. eqb-true _ 0 (not_false' (root A p (a j)) (failing_only n _ j is).1))
          (λ zero. minimal.degree.leads (sym (get_or-take (suc d) f d 0 (omega arith)) ∙ zero)) in
          omega (arith, p_long, length_failing n (λ j. not (root A p (get_or code.locators j 0))))
        where
          not_false' : (b : Bool) → not b ≡ false → b ≡ true
          not_false' true e = refl
          not_false' false e = absurd (true≢false e)

      module _ (word : List ℕ) (near : Near A code cells word) where
        count : errors n E u (number_at word) ≡ wrong cells word
        count = errors_are cells word (near.codeword.long ∙ sym long)

        locator : List ℕ
        locator = annihilator A (map a (failing n (agrees E u (number_at word))))

        -- the degree is at most the number of wrong cells
        pub degree_few : d ≤ wrong cells word
        unfolding locator
        degree_few =
            let found = error_locator checked.laws n code.rows a h u (number_at word) E (received m code checked cells long lettered word near.codeword) in
            let points = map a (failing n (agrees E u (number_at word))) in
            let size : length points ≡ errors n E u (number_at word) = length-map _ a ∙ length_failing n (agrees E u (number_at word)) in
            let has_degree : Degree A locator (errors n E u (number_at word)) = record {
              elements = annihilator_elements checked.laws.total points;
              leads = λ zero. let one = ap (λ k. get_or (annihilator A points) k 0) (sym size) ∙ annihilator_monic A checked.laws.total checked.laws.ring points (λ i is. point_element i is) in omega arith;
              above = λ j past. get_or_past locator j 0 (omega (arith, found.0));
            } in
            let lowest = minimal.lowest locator (errors n E u (number_at word)) has_degree (fits_from locator (errors n E u (number_at word)) found.0 (annihilator_elements checked.laws.total points) found.1) in
            omega (arith, count)
          where
            point_element : (i : ℕ) → Member i (map a (failing n (agrees E u (number_at word)))) → i < A.size
            point_element i is =
                let from = Rattle.algebra.proofs.Places.member_of_map a i (failing n (agrees E u (number_at word))) is in
                subst (λ (x : ℕ). x < A.size) (sym from.2) ((received m code checked cells long lettered word near.codeword).locators.element from.0 (failing_only n _ from.0 from.1).0)

        -- every wrong cell is erased, so the codeword agrees with what is left
        pub agrees_left : Agrees (erased A p code.locators cells) word
        agrees_left j below =
            let inside : j < n = omega (arith, length_erased A p code.locators cells) in
            subst (λ (c : Cell). IfNoted (get_or word j 0) c.letter) (sym (get_or_erased A p code.locators cells j inside)) (left inside (root A p (a j)) refl)
          where
            -- a noted letter that differs is a root
            same : (letter : ℕ) → j < n → (get_or cells j blank_cell).letter ≡ Some letter → root A p (a j) ≡ false → letter ≡ get_or word j 0
            same letter inside is no-root =
                ⊎_elim (λ e. e)
                (λ differs. absurd (false≢true (sym no-root ∙ eq-eqb _ 0
                (error_roots checked.laws n code.rows a h u (number_at word) E p (received m code checked cells long lettered word near.codeword)
                (let close = near.close in omega (arith, count, length_blank_places cells)) p_elements
                (let degree = degree_few in omega (arith, p_long, count))
                (fits_to p d p_long p_elements p_fits) j inside
                (λ erased-too. false≢true (sym (failing_only n _ j erased-too).1 ∙ ap is_some is))
                (λ agree. differs (sym (ap (λ o. unwrap_or o 0) is) ∙ agree))))))
                (cases_eq letter (get_or word j 0))

            kept : j < n → (o : Option ℕ) → (get_or cells j blank_cell).letter ≡ o → root A p (a j) ≡ false → IfNoted (get_or word j 0) o
            kept inside None is no-root = tt
            kept inside (Some letter) is no-root = same letter inside is no-root

            left : j < n → (b : Bool) → root A p (a j) ≡ b → IfNoted (get_or word j 0) (cond b blank_cell (get_or cells j blank_cell)).letter
            left inside true e = tt
            left inside false e = kept inside (get_or cells j blank_cell).letter refl e

        pub filled_is : word ≡ filled m code (erased A p code.locators cells) (syndromes A code (erased A p code.locators cells))
        filled_is =
            fills_only m code checked (erased A p code.locators cells) (length_erased A p code.locators cells ∙ long)
            (let more = blanks_erased A p code.locators cells in let roots = roots_few in let degree = degree_few in let close = near.close in omega arith)
            word near.codeword agrees_left
