-- The elements of a lawful meaning as a ring and as a field with laws that hold for all elements, and each definition
-- on numbers as the abstract one read back.
use Rattle.std.proofs.Common.{◌≡◌, ℕ, zero, suc, ◌+◌, ◌<◌, List, [], ◌∷◌, map, length, get_or, None, sym, refl, ap, ◌∙◌, ap₂, inl, inr, arith}
use mathlib.Core.HLevel.{Σ_prop_path, Σ_prop_discrete}
use native.Mathlib.Bridge.{le_prop}
use native.Mathlib.Decide.{ℕ_discrete, dec_lt}
use lib.ListN.{length-map, get_or-map}
use Rattle.algebra.specs.Meaning.{Arithmetic, Meaning}
use Rattle.algebra.specs.Laws.{Total, RingLaws, Laws}
use Rattle.algebra.specs.Places.{Member}
use Rattle.algebra.specs.Power.{times_power, power, sum}
use Rattle.algebra.specs.Polynomial.{AllElements, negate, evaluate, plus_linear, annihilator, quotient_linear, act, or_zero}
use Rattle.algebra.specs.Theorems.{cofactor}
use Rattle.algebra.proofs.Terms.{sum_cong, act_cong}
use Rattle.algebra.proofs.RingFacts.{plus_negate}
use Rattle.algebra.proofs.rings.Ring.{CommutativeRing, AbstractField, ⊗_𝟙, 𝟙_⊗, ⊗_assoc, ⊕_assoc, ⊕_⊖, ⊕_𝟘}
use Rattle.algebra.proofs.rings.Sums.{Σ}
use Rattle.algebra.proofs.rings.Polynomials
use Rattle.algebra.proofs.rings.Interpolation

-- a number below the size
abbrev pub Element : Arithmetic → Type 0
Element A = (x : ℕ) × (x < A.size)

pub element_path : (A : Arithmetic) {x y : Element A} → x.0 ≡ y.0 → x ≡ y
element_path A = Σ_prop_path (λ x. le_prop)

-- what a ring has, with or without inverses
pub record Lawful (A : Arithmetic) : Type 0 where
  pub total : Total A
  pub ring : RingLaws A

abbrev pub lawful : {m : Meaning} → Laws m → Lawful m.arithmetic
lawful laws = record { total = laws.total; ring = laws.ring }

module _ {A : Arithmetic} (W : Lawful A) where
  unfoldable pub ring : CommutativeRing (Element A)
  ring = record {
    𝟘 = (0, omega (arith, W.total.smallest));
    𝟙 = (1, W.total.smallest);
    ◌⊕◌ = λ x y. (A.plus x.0 y.0, W.total.plus_element x.0 y.0);
    ◌⊗◌ = λ x y. (A.times x.0 y.0, W.total.times_element x.0 y.0);
    ⊖◌ = λ x. (negate A x.0, W.total.minus_element 0 x.0);
    plus_assoc = λ x y z. element_path A (W.ring.plus_assoc x.0 y.0 z.0 x.1 y.1 z.1);
    plus_comm = λ x y. element_path A (W.ring.plus_comm x.0 y.0 x.1 y.1);
    plus_zero = λ x. element_path A (W.ring.plus_zero x.0 x.1);
    plus_minus = λ x. element_path A (plus_negate A W.total W.ring x.0 x.1);
    times_assoc = λ x y z. element_path A (W.ring.times_assoc x.0 y.0 z.0 x.1 y.1 z.1);
    times_comm = λ x y. element_path A (W.ring.times_comm x.0 y.0 x.1 y.1);
    times_one = λ x. element_path A (W.ring.times_one x.0 x.1);
    times_plus = λ x y z. element_path A (W.ring.times_plus x.0 y.0 z.0 x.1 y.1 z.1);
  }

  open ring use {𝟘, 𝟙, ◌⊕◌, ◌⊗◌, ⊖◌}

  infixl 60 ◌⊕◌
  infixl 70 ◌⊗◌
  infixr 80 ⊖◌
  -- the element with a given number; 0 for a number that is none
  pub lift_by : (x : ℕ) → Dec (x < A.size) → Element A
  lift_by x (yes h) = (x, h)
  lift_by x (no _) = (0, omega (arith, W.total.smallest))

  pub lift : ℕ → Element A
  lift x = lift_by x (dec_lt x A.size)

  pub value_lift : (x : ℕ) → x < A.size → (lift x).0 ≡ x
  unfolding lift lift_by
  value_lift x h = by_cases (dec_lt x A.size)
    where
      by_cases : (d : Dec (x < A.size)) → (lift_by x d).0 ≡ x
      by_cases (yes _) = refl
      by_cases (no n) = absurd (n h)

  -- each definition on numbers, at the numbers of elements
  pub zero_is : 𝟘.0 ≡ 0
  unfolding ring
  zero_is = refl

  pub plus_is : (x y : Element A) → A.plus x.0 y.0 ≡ (x ⊕ y).0
  unfolding ring
  plus_is x y = refl

  pub one_is : 𝟙.0 ≡ 1
  unfolding ring
  one_is = refl

  pub times_is : (x y : Element A) → A.times x.0 y.0 ≡ (x ⊗ y).0
  unfolding ring
  times_is x y = refl

  pub negate_is : (x : Element A) → negate A x.0 ≡ (⊖ x).0
  unfolding ring
  negate_is x = refl

  pub minus_is : (x y : Element A) → A.minus x.0 y.0 ≡ (x ⊕ ⊖ y).0
  minus_is x y = ap (λ z. z.0) difference
    where
      d : Element A
      d = (A.minus x.0 y.0, W.total.minus_element x.0 y.0)

      back : d ⊕ y ≡ x
      back = element_path A (unfold ring in W.ring.minus_plus x.0 y.0 x.1 y.1)

      difference : d ≡ x ⊕ ⊖ y
      difference = sym (⊕_𝟘 ring d) ∙ ap (λ z. d ⊕ z) (sym (⊕_⊖ ring y)) ∙ sym (⊕_assoc ring d y (⊖ y)) ∙ ap (λ z. z ⊕ ⊖ y) back

  pub times_power_is : (x a : Element A) (k : ℕ) → times_power A x.0 a.0 k ≡ (x ⊗ Polynomials.pow ring a k).0
  unfolding ring Polynomials.pow
  times_power_is x a zero = ap (λ z. z.0) (sym (⊗_𝟙 ring x))
  times_power_is x a (suc k) = ap (λ z. A.times z a.0) (times_power_is x a k)
      ∙ ap (λ z. z.0) (⊗_assoc ring x (Polynomials.pow ring a k) a)

  pub power_is : (a : Element A) (k : ℕ) → power A a.0 k ≡ (Polynomials.pow ring a k).0
  unfolding ring
  power_is a k = times_power_is 𝟙 a k ∙ ap (λ z. z.0) (𝟙_⊗ ring (Polynomials.pow ring a k))

  pub sum_is : (n : ℕ) (f : ℕ → Element A) → sum A n (λ i. (f i).0) ≡ (Σ ring n f).0
  unfolding ring Σ
  sum_is zero f = refl
  sum_is (suc n) f = ap (λ z. A.plus z (f n).0) (sum_is n f)

  abbrev pub values : List (Element A) → List ℕ
  values = map (λ x. x.0)

  pub evaluate_is : (p : List (Element A)) (x : Element A) → evaluate A (values p) x.0 ≡ (Polynomials.eval ring p x).0
  unfolding ring Polynomials.eval
  evaluate_is [] x = refl
  evaluate_is (c ∷ p) x = ap (λ z. A.plus c.0 (A.times x.0 z)) (evaluate_is p x)

  pub plus_linear_is : (c a : Element A) (p : List (Element A)) →
      plus_linear A c.0 a.0 (values p) ≡ values (Polynomials.plus_linear ring c a p)
  unfolding ring Polynomials.plus_linear
  plus_linear_is c a [] = refl
  plus_linear_is c a (d ∷ p) = ap₂ ◌∷◌ (minus_is c (a ⊗ d)) (plus_linear_is d a p)

  pub annihilator_is : (points : List (Element A)) → annihilator A (values points) ≡ values (Polynomials.annihilator ring points)
  unfolding ring Polynomials.annihilator
  annihilator_is [] = refl
  annihilator_is (a ∷ points) = ap (plus_linear A 0 a.0) (annihilator_is points)
      ∙ plus_linear_is 𝟘 a (Polynomials.annihilator ring points)

  pub quotient_linear_is : (a : Element A) (p : List (Element A)) → quotient_linear A a.0 (values p) ≡ values (Polynomials.quo ring a p)
  unfolding Polynomials.quo
  quotient_linear_is a [] = refl
  quotient_linear_is a (c ∷ []) = refl
  quotient_linear_is a (c ∷ d ∷ p) = ap₂ ◌∷◌ (evaluate_is (d ∷ p) a) (quotient_linear_is a (d ∷ p))

  pub act_is : (p : List (Element A)) (s : ℕ → Element A) (k : ℕ) → act A (values p) (λ i. (s i).0) k ≡ (Polynomials.act ring p s k).0
  unfolding ring Polynomials.act
  act_is [] s k = refl
  act_is (c ∷ p) s k = ap (λ z. A.plus (A.times c.0 (s k).0) z) (act_is p s (suc k))

  -- numbers below the size, by way of their elements
  pub sum_up : (n : ℕ) (f : ℕ → ℕ) (g : ℕ → Element A) → ((i : ℕ) → i < n → f i ≡ (g i).0) → sum A n f ≡ (Σ ring n g).0
  sum_up n f g e = sum_cong A n f (λ i. (g i).0) e ∙ sum_is n g

  pub times_power_up : (x a k : ℕ) → x < A.size → a < A.size → times_power A x a k ≡ (lift x ⊗ Polynomials.pow ring (lift a) k).0
  times_power_up x a k hx ha = ap₂ (λ y b. times_power A y b k) (sym (value_lift x hx)) (sym (value_lift a ha))
      ∙ times_power_is (lift x) (lift a) k

  pub coefficients_up : (p : List ℕ) → AllElements A p → p ≡ values (map lift p)
  coefficients_up [] h = refl
  coefficients_up (c ∷ p) h = ap₂ ◌∷◌ (sym (value_lift c (h 0))) (coefficients_up p (λ k. h (suc k)))

  pub points_up : (a : ℕ → ℕ) (E : List ℕ) → ((i : ℕ) → Member i E → a i < A.size) → map a E ≡ values (map (λ i. lift (a i)) E)
  points_up a [] h = refl
  points_up a (i ∷ E) h = ap₂ ◌∷◌ (sym (value_lift (a i) (h i (inl refl)))) (points_up a E (λ j m. h j (inr m)))

  pub coefficient_is : (p : List (Element A)) (k : ℕ) → get_or (values p) k 0 ≡ (Polynomials.coeff ring p k).0
  unfolding ring
  coefficient_is p k = get_or-map (λ (x : Element A). x.0) p k 𝟘

  pub act_up : (p : List (Element A)) (s : ℕ → ℕ) (t : ℕ → Element A) (k : ℕ) → ((i : ℕ) → i < length p → s (k + i) ≡ (t (k + i)).0) →
      act A (values p) s k ≡ (Polynomials.act ring p t k).0
  act_up p s t k e = act_cong A (values p) s (λ i. (t i).0) k (λ i h. e i (omega (arith, length-map p (λ (x : Element A). x.0))))
      ∙ act_is p t k

  pub annihilator_up : (a : ℕ → ℕ) (E : List ℕ) → ((i : ℕ) → Member i E → a i < A.size) →
      annihilator A (map a E) ≡ values (Polynomials.annihilator ring (map (λ i. lift (a i)) E))
  annihilator_up a E h = ap (annihilator A) (points_up a E h) ∙ annihilator_is (map (λ i. lift (a i)) E)

  pub cofactor_up : (a : ℕ → ℕ) (E : List ℕ) → ((i : ℕ) → Member i E → a i < A.size) → (j : ℕ) → Member j E →
      cofactor A a E j ≡ values (Interpolation.cofactor ring (λ i. lift (a i)) E j)
  cofactor_up a E h j m = ap₂ (quotient_linear A) (sym (value_lift (a j) (h j m))) (annihilator_up a E h)
      ∙ quotient_linear_is (lift (a j)) _

-- the field of a lawful meaning
module _ {m : Meaning} (laws : Laws m) where
  abbrev pub element_ring : CommutativeRing (Element m.arithmetic)
  element_ring = ring (lawful laws)

  pub invert : Element m.arithmetic → Element m.arithmetic
  invert x = lift (lawful laws) (or_zero (m.inverse x.0))

  pub one_not_zero : element_ring.𝟙 ≡ element_ring.𝟘 → ⊥
  unfolding ring
  one_not_zero e = let z : ◌≡◌ {A = ℕ} 1 0 = ap (λ x. x.0) e in omega arith

  pub times_invert : (x : Element m.arithmetic) → (x ≡ element_ring.𝟘 → ⊥) → element_ring.◌⊗◌ x (invert x) ≡ element_ring.𝟙
  unfolding ring invert
  times_invert x h =
      let (b, e, i) = laws.inverses.inverts x.0 (λ z. h (element_path m.arithmetic z)) x.1 in
      element_path m.arithmetic
      (ap (λ z. m.arithmetic.times x.0 z)
      (ap (λ o. (lift (lawful laws) (or_zero o)).0) e ∙ value_lift (lawful laws) b i.element)
      ∙ i.product)

  abbrev pub field : AbstractField (Element m.arithmetic)
  field = record {
    ring = element_ring;
    discrete = Σ_prop_discrete (λ x. le_prop) ℕ_discrete;
    one_not_zero = one_not_zero;
    inv = invert;
    times_inv = times_invert;
  }

  -- what the meaning answers as an inverse is an element, with 0 for nothing
  pub inverse_element : (x : ℕ) → or_zero (m.inverse x) < m.arithmetic.size
  inverse_element x = by_cases (dec_lt x m.arithmetic.size) (ℕ_discrete x 0)
    where
      none : m.inverse x ≡ None → or_zero (m.inverse x) < m.arithmetic.size
      none e = rw e (omega (arith, laws.total.smallest))

      by_cases : Dec (x < m.arithmetic.size) → Dec (x ≡ 0) → or_zero (m.inverse x) < m.arithmetic.size
      by_cases (no out) d = none (laws.inverses.nothing_outside x (omega arith))
      by_cases (yes h) (yes z) = none (ap m.inverse z ∙ laws.inverses.nothing_for_zero)
      by_cases (yes h) (no nz) = let (b, e, i) = laws.inverses.inverts x nz h in rw e i.element

  pub invert_is : (x : Element m.arithmetic) → or_zero (m.inverse x.0) ≡ (invert x).0
  unfolding invert
  invert_is x = sym (value_lift (lawful laws) _ (inverse_element x.0))
