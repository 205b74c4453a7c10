-- Lemmas: proved, nothing here is to be believed.
-- Laws of tables of four rows and columns, by computed tests.
use Rattle.std.specs.Prelude.{◌≡◌, ℕ, zero, suc, ◌<◌, ◌≤◌, Bool, true, ◌&&◌, ◌⊎◌, List, [], length, nat_eq, nat_lt, slice_index, slice_index_or}
use Rattle.std.proofs.Common.{sym, ap, subst, inl, inr, ⊎_elim, arith}
use Rattle.std.proofs.lemmas.Bool.{and_parts, eqb-true, ltb-true, cases_eq, cases_lt}
use Rattle.std.proofs.lemmas.List.{get_or_past}
use Rattle.outside.specs.four_field.FourElements.{entry}

-- whether all numbers below n pass a test
abbrev pub all_below : ℕ → (ℕ → Bool) → Bool
all_below zero test = true
all_below (suc n) test = test n && all_below n test

pub all_below_at : (n : ℕ) (test : ℕ → Bool) → all_below n test ≡ true → (a : ℕ) → a < n
    → test a ≡ true
all_below_at zero test t a h = absurd (omega arith)
all_below_at (suc n) test t a h =
    let parts = and_parts _ _ t in
    ⊎_elim (λ (e : a ≡ n). subst (λ (x : ℕ). test x ≡ true) (sym e) parts.0)
    (λ other. all_below_at n test parts.1 a (omega arith)) (cases_eq a n)

pub law_of_one : (f g : ℕ → ℕ) → all_below 4 (λ a. nat_eq (f a) (g a)) ≡ true
    → (a : ℕ) → a < 4 → f a ≡ g a
law_of_one f g t a ha = eqb-true _ _ (all_below_at 4 (λ a. nat_eq (f a) (g a)) t a ha)

pub law_of_two : (f g : ℕ → ℕ → ℕ)
    → all_below 4 (λ a. all_below 4 (λ b. nat_eq (f a b) (g a b))) ≡ true → (a b : ℕ) → a < 4
    → b < 4 → f a b ≡ g a b
law_of_two f g t a b ha hb =
    law_of_one (f a) (g a) (all_below_at 4 (λ a. all_below 4 (λ b. nat_eq (f a b) (g a b))) t a ha)
    b hb

pub law_of_three : (f g : ℕ → ℕ → ℕ → ℕ)
    → all_below 4 (λ a. all_below 4 (λ b. all_below 4 (λ c. nat_eq (f a b c) (g a b c)))) ≡ true
    → (a b c : ℕ) → a < 4 → b < 4 → c < 4 → f a b c ≡ g a b c
law_of_three f g t a b c ha hb hc =
    law_of_two (f a) (g a) (all_below_at 4
    (λ a. all_below 4 (λ b. all_below 4 (λ c. nat_eq (f a b c) (g a b c)))) t a ha) b c hb hc

-- closed below n
pub closed_below : (n : ℕ) (op : ℕ → ℕ → ℕ)
    → all_below n (λ a. all_below n (λ b. nat_lt (op a b) n)) ≡ true → (a b : ℕ) → a < n → b < n
    → op a b < n
closed_below n op t a b ha hb =
    ltb-true _ _ (all_below_at n (λ b. nat_lt (op a b) n)
    (all_below_at n (λ a. all_below n (λ b. nat_lt (op a b) n)) t a ha) b hb)

module _ (table : List (List ℕ)) (rows : length table ≡ 4)
    (columns : (a : ℕ) → a < 4 → length (slice_index_or table a []) ≡ 4) where
  outside_rows : (a b : ℕ) → 4 ≤ a → entry table a b ≡ 0
  outside_rows a b ha =
      ap (λ (row : List ℕ). slice_index row b) (get_or_past table a [] (omega arith))

  pub entry_outside : (a b : ℕ) → (4 ≤ a) ⊎ (4 ≤ b) → entry table a b ≡ 0
  entry_outside a b (inl ha) = outside_rows a b ha
  entry_outside a b (inr hb) =
      ⊎_elim (λ (ha : a < 4). get_or_past (slice_index_or table a []) b 0
      (omega (arith, columns a ha))) (outside_rows a b) (cases_lt a 4)

  -- every entry is an element, also the 0 outside
  pub entry_below : ((a b : ℕ) → a < 4 → b < 4 → entry table a b < 4) → (a b : ℕ)
      → entry table a b < 4
  entry_below inside a b =
      ⊎_elim (λ (ha : a < 4). ⊎_elim (λ (hb : b < 4). inside a b ha hb)
      (λ (hb : 4 ≤ b). omega (arith, entry_outside a b (inr hb))) (cases_lt b 4))
      (λ (ha : 4 ≤ a). omega (arith, outside_rows a b ha)) (cases_lt a 4)
