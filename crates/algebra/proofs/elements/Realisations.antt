-- Lists of numbers as sequences of elements, and what is made of two of them.
use Rattle.std.proofs.Common.{◌≡◌, ℕ, suc, ◌+◌, ◌-◌, ◌<◌, List, map, get_or, sym, ap, ◌∙◌, ap₂}
use Rattle.algebra.specs.Meaning.{Arithmetic}
use Rattle.algebra.specs.Polynomial.{AllElements}
use Rattle.algebra.specs.Realisation.{applied, partner}
use Rattle.algebra.proofs.rings.Sums.{Σ}
use Rattle.algebra.proofs.rings.Polynomials
use Rattle.algebra.proofs.elements.Carrier.{Element, element_path, Lawful, ring, lift, value_lift, times_is, sum_up, coefficients_up, coefficient_is}
use Rattle.algebra.proofs.elements.Elements.{is_zero, zero_value}
use Rattle.algebra.proofs.rings.Convolutions.{conv}

module _ {A : Arithmetic} (W : Lawful A) where
  open ring W use {𝟘, ◌⊗◌}

  infixl 70 ◌⊗◌
  -- the coefficients of a list, as elements
  unfoldable pub lifted : List ℕ → ℕ → Element A
  lifted f j = lift W (get_or f j 0)

  pub value_lifted : (f : List ℕ) → AllElements A f → (j : ℕ) → (lifted f j).0 ≡ get_or f j 0
  unfolding lifted
  value_lifted f h j = value_lift W (get_or f j 0) (h j)

  pub lifted_zero : (f : List ℕ) → AllElements A f → (j : ℕ) → get_or f j 0 ≡ 0 → lifted f j ≡ 𝟘
  lifted_zero f h j e = is_zero W (value_lifted f h j ∙ e)

  pub zero_lifted : (f : List ℕ) → AllElements A f → (j : ℕ) → lifted f j ≡ 𝟘 → get_or f j 0 ≡ 0
  zero_lifted f h j e = sym (value_lifted f h j) ∙ zero_value W e

  -- a coefficient of a polynomial over the elements
  pub coeff_lifted : (p : List ℕ) → AllElements A p → (j : ℕ) → Polynomials.coeff (ring W) (map (lift W) p) j ≡ lifted p j
  coeff_lifted p h j =
      element_path A (sym (coefficient_is W (map (lift W) p) j) ∙ ap (λ q. get_or q j 0) (sym (coefficients_up W p h)) ∙ sym (value_lifted p h j))

  pub scaled_is : (a : ℕ) (f : List ℕ) → a < A.size → AllElements A f → (j : ℕ) → A.times a (get_or f j 0) ≡ (lift W a ⊗ lifted f j).0
  scaled_is a f ha hf j = ap₂ A.times (sym (value_lift W a ha)) (sym (value_lifted f hf j)) ∙ times_is W _ _

  products : (f s : List ℕ) → AllElements A f → AllElements A s → (a b : ℕ) → A.times (get_or f a 0) (get_or s b 0) ≡ (lifted f a ⊗ lifted s b).0
  unfolding lifted
  products f s hf hs a b = scaled_is (get_or f a 0) s (hf a) hs b

  pub applied_is : (f s : List ℕ) → AllElements A f → AllElements A s → (m k : ℕ) → applied A f m s k ≡ (conv (ring W) (suc m) (lifted f) (lifted s) k).0
  unfolding conv
  applied_is f s hf hs m k = sum_up W (suc m) _ _ (λ j _. products f s hf hs j (k + j))

  pub partner_is : (f s : List ℕ) → AllElements A f → AllElements A s → (m k : ℕ) → partner A s f m k ≡ (Σ (ring W) (m - k) (λ t. lifted f (k + 1 + t) ⊗ lifted s t)).0
  partner_is f s hf hs m k = sum_up W (m - k) _ _ (λ t _. products f s hf hs (k + 1 + t) t)
