-- The coefficients of polynomials in 65 places.
use Rattle.std.proofs.Common.{◌≡◌, ℕ, ◌+◌, ◌<◌, ◌≤◌, List, ◌++◌, length, get_or, take, drop, sym, ap, ◌∙◌, ⊎_elim, take-append-drop, arith}
use Rattle.std.proofs.lemmas.List.FromFn.{get_or-map-range_with_len, length-map-range_with_len, fill_by_all}
use Rattle.std.proofs.lemmas.List.{get_or_past, get_or-drop, length-drop}
use Rattle.std.proofs.lemmas.Bool.{le-leb, lt-leb, cases_lt, cond-true, cond-false}
use Rattle.std.proofs.lemmas.Grind.{same_number_lists}
use Rattle.algebra.specs.Limits.{coefficients}
use Rattle.minimal_pairs.specs.Poly.{cut, up_to, coeff}
use Rattle.minimal_pairs.specs.declared.poly.Poly.{Poly}

pub same_polys : (p q : Poly) → length p.coeffs ≡ length q.coeffs → ((k : ℕ) → k < length p.coeffs → coeff p k ≡ coeff q k) → p ≡ q
same_polys p q long same = ap (λ (xs : List ℕ). record { coeffs = xs }) (same_number_lists p.coeffs q.coeffs long same)

module _ (m : ℕ) (f : ℕ → ℕ) where
  pub length_up_to : length (up_to m f).coeffs ≡ coefficients
  unfolding up_to
  length_up_to = length-map-range_with_len (cut m f) 0 coefficients

  inside : (j : ℕ) → j < coefficients → coeff (up_to m f) j ≡ cut m f j
  unfolding up_to
  inside j h = get_or-map-range_with_len (cut m f) 0 coefficients j j 0 h (omega arith)

  pub coeff_up_to : (j : ℕ) → m < coefficients → j ≤ m → coeff (up_to m f) j ≡ f j
  coeff_up_to j small h = inside j (omega arith) ∙ cond-true _ _ _ (le-leb j m h)

  pub coeff_above : (j : ℕ) → m < j → coeff (up_to m f) j ≡ 0
  coeff_above j h =
      ⊎_elim (λ below. inside j below ∙ cond-false _ _ _ (lt-leb j m h)) (λ past. let long = length_up_to in get_or_past (up_to m f).coeffs j 0 (omega arith)) (cases_lt j coefficients)

  -- an array with the coefficients of the polynomial is it
  pub up_to_is : (xs : List ℕ) → length xs ≡ coefficients → ((k : ℕ) → k < coefficients → get_or xs k 0 ≡ cut m f k) → record { coeffs = xs } ≡ up_to m f
  unfolding up_to
  up_to_is xs long is = ap (λ (ys : List ℕ). record { coeffs = ys }) (fill_by_all (cut m f) xs coefficients 0 long is)

-- two lists of one length with nothing but zeros after place m: what stands after it is the same
same_tails : (m : ℕ) (xs ys : List ℕ) → length xs ≡ length ys → ((j : ℕ) → m < j → get_or xs j 0 ≡ 0) → ((j : ℕ) → m < j → get_or ys j 0 ≡ 0) →
    drop (m + 1) xs ≡ drop (m + 1) ys
same_tails m xs ys long zeros zeros-2 =
    let long-1 = length-drop (m + 1) xs in
    let long-2 = length-drop (m + 1) ys in
    same_number_lists (drop (m + 1) xs) (drop (m + 1) ys) (omega arith)
    (λ k h. get_or-drop (m + 1) xs k 0 ∙ zeros (m + 1 + k) (omega arith) ∙ sym (get_or-drop (m + 1) ys k 0 ∙ zeros-2 (m + 1 + k) (omega arith)))

-- the places up to m of one list before those after m of another are all of the first
pub exchanged_front : (m : ℕ) (front xs ys : List ℕ) → front ≡ take (m + 1) ys → length xs ≡ length ys → ((j : ℕ) → m < j → get_or xs j 0 ≡ 0) →
    ((j : ℕ) → m < j → get_or ys j 0 ≡ 0) → front ++ drop (m + 1) xs ≡ ys
exchanged_front m front xs ys is long zeros zeros-2 =
    ap (λ l. l ++ drop (m + 1) xs) is ∙ ap (λ l. take (m + 1) ys ++ l) (same_tails m xs ys long zeros zeros-2) ∙ take-append-drop (m + 1) ys
