-- Steps of the loops that read a polynomial from its highest coefficient down.
use Rattle.std.proofs.Common.{◌≡◌, ℕ, suc, ◌+◌, ◌-◌, ◌<◌, List, [], ◌∷◌, length, reverse, get_or, drop, sym, refl, ap, ◌∙◌, ap₂, arith, drop-cons}
use Rattle.std.proofs.lemmas.List.{length-reverse, get_or-reverse, get_or-drop, get_or_default}
use Rattle.algebra.specs.Meaning.{Arithmetic}
use Rattle.algebra.specs.Polynomial.{evaluate, act}
use Rattle.decoding.specs.filling.Fillings.{number_at}

module _ (A : Arithmetic) (p : List ℕ) (i j : ℕ) (next : j ≡ suc i) (within : i < length p) where
  -- one coefficient more is applied to the sequence
  pub act_more : (s : ℕ → ℕ) (k sum x : ℕ) → sum ≡ act A (drop j p) s (k + j) → x ≡ A.plus (A.times (get_or p i 0) (s (k + i))) sum →
      x ≡ act A (drop i p) s (k + i)
  act_more s k sum x so_far is =
      let shifted : k + j ≡ suc (k + i) = omega arith in
      is ∙ ap (A.plus (A.times (get_or p i 0) (s (k + i)))) (so_far ∙ ap₂ (λ t n. act A (drop t p) s n) next shifted)
      ∙ ap (λ l. act A l s (k + i)) (sym (drop-cons p i 0 within))

  -- one step of Horner's rule
  pub evaluate_more : (a value x : ℕ) → value ≡ evaluate A (drop j p) a → x ≡ A.plus (get_or p i 0) (A.times a value) → x ≡ evaluate A (drop i p) a
  evaluate_more a value x so_far is =
      is ∙ ap (λ v. A.plus (get_or p i 0) (A.times a v)) (so_far ∙ ap (λ t. evaluate A (drop t p) a) next)
      ∙ ap (λ l. evaluate A l a) (sym (drop-cons p i 0 within))

-- the coefficient of a turn, from the end
pub from_end : (p : List ℕ) (i x : ℕ) → i < length (reverse p) → x ≡ get_or (reverse p) i x →
    (i < length p) × (x ≡ get_or p (length p - (i + 1)) 0)
from_end p i x h is =
    let below : i < length p = omega (arith, length-reverse p) in
    let place : length p - 1 - i ≡ length p - (i + 1) = omega arith in (
      below,
      is ∙ get_or-reverse p i x below ∙ ap (λ k. get_or p k x) place ∙ get_or_default p (length p - (i + 1)) x 0 (omega arith),
    )

pub all_from_end : (p : List ℕ) → length (reverse p) ≡ length p
all_from_end p = length-reverse p

-- what is applied to a sequence from row k on
pub act_from : (A : Arithmetic) (p s : List ℕ) (k i : ℕ) → act A p (number_at (drop k s)) i ≡ act A p (number_at s) (k + i)
act_from A [] s k i = refl
act_from A (c ∷ p) s k i =
    let next : k + suc i ≡ suc (k + i) = omega arith in
    ap₂ (λ x y. A.plus (A.times c x) y) (get_or-drop k s i 0) (act_from A p s k (suc i) ∙ ap (act A p (number_at s)) next)
