-- Operations that answer 0 outside the elements.
use Rattle.std.proofs.Common.{◌≡◌, ℕ, ◌<◌, ◌≤◌, ltb, ◌⊎◌, inl, inr, ⊎_elim}
use mathlib.Core.Path.{subst⁻¹}
use Rattle.std.proofs.lemmas.Bool.{lt-ltb, le-ltb, cases_lt, and_from, and_left, and_right, cond-true, cond-false}
use Rattle.algebra.specs.Meaning.{on_elements}

module _ (size : ℕ) (op : ℕ → ℕ → ℕ) where
  pub on_elements_inside : (a b : ℕ) → a < size → b < size → on_elements size op a b ≡ op a b
  on_elements_inside a b ha hb = cond-true _ _ _ (and_from _ _ (lt-ltb a size ha) (lt-ltb b size hb))

  pub on_elements_outside : (a b : ℕ) → (size ≤ a) ⊎ (size ≤ b) → on_elements size op a b ≡ 0
  on_elements_outside a b = ⊎_elim (λ h. cond-false _ _ _ (and_left _ _ (le-ltb a size h))) (λ h. cond-false _ _ _ (and_right (ltb a size) _ (le-ltb b size h)))

  -- every answer is below the size, where those to elements are and the size is not 0
  pub on_elements_below : 0 < size → ((a b : ℕ) → a < size → b < size → op a b < size) → (a b : ℕ) → on_elements size op a b < size
  on_elements_below positive below a b = ⊎_elim (λ ha. ⊎_elim (inside ha) (λ hb. outside (inr hb)) (cases_lt b size)) (λ ha. outside (inl ha)) (cases_lt a size)
    where
      inside : a < size → b < size → on_elements size op a b < size
      inside ha hb = subst⁻¹ (λ (x : ℕ). x < size) (on_elements_inside a b ha hb) (below a b ha hb)

      outside : (size ≤ a) ⊎ (size ≤ b) → on_elements size op a b < size
      outside h = subst⁻¹ (λ (x : ℕ). x < size) (on_elements_outside a b h) positive
