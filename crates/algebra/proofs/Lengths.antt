-- Lengths of the polynomials on numbers, and that every answer is an element.
use Rattle.std.proofs.Common.{◌≡◌, ℕ, zero, suc, pred, ◌<◌, List, [], ◌∷◌, length, refl, ap, ◌∙◌, arith}
use Rattle.algebra.specs.Meaning.{Arithmetic}
use Rattle.algebra.specs.Laws.{Total}
use Rattle.algebra.specs.Power.{times_power, sum}
use Rattle.algebra.specs.Polynomial.{AllElements, evaluate, plus_linear, annihilator, quotient_linear, act}

pub length_plus_linear : (A : Arithmetic) (c a : ℕ) (p : List ℕ) → length (plus_linear A c a p) ≡ suc (length p)
length_plus_linear A c a [] = refl
length_plus_linear A c a (d ∷ p) = ap suc (length_plus_linear A d a p)

pub length_annihilator : (A : Arithmetic) (points : List ℕ) → length (annihilator A points) ≡ suc (length points)
length_annihilator A [] = refl
length_annihilator A (a ∷ points) = length_plus_linear A 0 a (annihilator A points) ∙ ap suc (length_annihilator A points)

pub length_quotient_linear : (A : Arithmetic) (a : ℕ) (p : List ℕ) → length (quotient_linear A a p) ≡ pred (length p)
length_quotient_linear A a [] = refl
length_quotient_linear A a (c ∷ []) = refl
length_quotient_linear A a (c ∷ d ∷ p) = ap suc (length_quotient_linear A a (d ∷ p))

module _ {A : Arithmetic} (total : Total A) where
  pub evaluate_element : (p : List ℕ) (x : ℕ) → evaluate A p x < A.size
  evaluate_element [] x = omega (arith, total.smallest)
  evaluate_element (c ∷ p) x = total.plus_element c _

  pub act_element : (p : List ℕ) (s : ℕ → ℕ) (k : ℕ) → act A p s k < A.size
  act_element [] s k = omega (arith, total.smallest)
  act_element (c ∷ p) s k = total.plus_element _ _

  pub sum_element : (n : ℕ) (f : ℕ → ℕ) → sum A n f < A.size
  sum_element zero f = omega (arith, total.smallest)
  sum_element (suc n) f = total.plus_element _ (f n)

  pub times_power_element : (x a k : ℕ) → x < A.size → times_power A x a k < A.size
  times_power_element x a zero h = h
  times_power_element x a (suc k) h = total.times_element _ a

  -- the coefficients of a product with X − a, of an annihilator and of a quotient
  pub plus_linear_elements : (c a : ℕ) (p : List ℕ) → c < A.size → AllElements A p → AllElements A (plus_linear A c a p)
  plus_linear_elements c a [] hc hp zero = hc
  plus_linear_elements c a [] hc hp (suc k) = omega (arith, total.smallest)
  plus_linear_elements c a (d ∷ p) hc hp zero = total.minus_element c _
  plus_linear_elements c a (d ∷ p) hc hp (suc k) = plus_linear_elements d a p (hp 0) (λ k. hp (suc k)) k

  pub annihilator_elements : (points : List ℕ) → AllElements A (annihilator A points)
  annihilator_elements [] zero = total.smallest
  annihilator_elements [] (suc k) = omega (arith, total.smallest)
  annihilator_elements (a ∷ points) k = plus_linear_elements 0 a (annihilator A points) (omega (arith, total.smallest))
      (annihilator_elements points) k

  pub quotient_linear_elements : (a : ℕ) (p : List ℕ) → AllElements A (quotient_linear A a p)
  quotient_linear_elements a [] k = omega (arith, total.smallest)
  quotient_linear_elements a (c ∷ []) k = omega (arith, total.smallest)
  quotient_linear_elements a (c ∷ d ∷ p) zero = evaluate_element (d ∷ p) a
  quotient_linear_elements a (c ∷ d ∷ p) (suc k) = quotient_linear_elements a (d ∷ p) k
