-- Words, points and polynomials of numbers below the size, by way of their elements.
use Rattle.std.proofs.Common.{◌≡◌, ℕ, zero, suc, ◌<◌, ◌≤◌, Bool, true, false, cond, List, map, get_or, sym, refl, ap, ◌∙◌, ap₂, map-id, arith}
use Rattle.std.proofs.lemmas.Bool.{both_ways}
use Rattle.algebra.specs.Meaning.{Arithmetic, Meaning}
use Rattle.algebra.specs.Laws.{Laws}
use Rattle.algebra.specs.Places.{Member, member, failures}
use Rattle.algebra.specs.Power.{times_power}
use Rattle.algebra.specs.Polynomial.{AllElements, evaluate, annihilator, divide}
use Rattle.algebra.specs.Theorems
use Rattle.algebra.proofs.Places.{member_only, member_if}
use Rattle.algebra.proofs.rings.Ring.{zero?}
use Rattle.algebra.proofs.rings.Polynomials
use Rattle.algebra.proofs.rings.Syndromes
use Rattle.algebra.proofs.rings.Points
use Rattle.algebra.proofs.elements.Carrier.{Element, element_path, Lawful, lawful, ring, lift, value_lift, field}
use Rattle.algebra.proofs.elements.Carrier

module _ {A : Arithmetic} (W : Lawful A) where
  open ring W use {𝟘, ◌⊗◌}

  infixl 70 ◌⊗◌
  pub lift_injective : (x y : ℕ) → x < A.size → y < A.size → lift W x ≡ lift W y → x ≡ y
  lift_injective x y hx hy e = sym (value_lift W x hx) ∙ ap (λ z. z.0) e ∙ value_lift W y hy

  -- an element is 0 when its number is
  pub is_zero : {x : Element A} → x.0 ≡ 0 → x ≡ 𝟘
  is_zero e = element_path A (e ∙ sym (Carrier.zero_is W))

  pub zero_value : {x : Element A} → x ≡ 𝟘 → x.0 ≡ 0
  zero_value e = ap (λ z. z.0) e ∙ Carrier.zero_is W

  pub lift_zero : (x : ℕ) → x < A.size → lift W x ≡ 𝟘 → x ≡ 0
  lift_zero x h e = sym (value_lift W x h) ∙ zero_value e

  -- distinct locators and nonzero multipliers
  pub locators : {n : ℕ} {a : ℕ → ℕ} → Theorems.Locators A n a → (i j : ℕ) → i < n → j < n → lift W (a i) ≡ lift W (a j) → i ≡ j
  locators {a = a} L i j hi hj e = L.distinct i j hi hj (lift_injective (a i) (a j) (L.element i hi) (L.element j hj) e)

  pub multipliers : {n : ℕ} {h : ℕ → ℕ} → Theorems.Multipliers A n h → (i : ℕ) → i < n → lift W (h i) ≡ 𝟘 → ⊥
  multipliers {h = h} M i below e = M.nonzero i below (lift_zero (h i) (M.element i below) e)

  -- a polynomial's coefficients and values
  pub coefficients : (p : List ℕ) → AllElements A p → (k : ℕ) →
      get_or p k 0 ≡ (Polynomials.coeff (ring W) (map (lift W) p) k).0
  coefficients p elements k = ap (λ q. get_or q k 0) (Carrier.coefficients_up W p elements) ∙ Carrier.coefficient_is W (map (lift W) p) k

  pub evaluation : (p : List ℕ) → AllElements A p → (x : ℕ) → x < A.size →
      evaluate A p x ≡ (Polynomials.eval (ring W) (map (lift W) p) (lift W x)).0
  evaluation p elements x h = ap₂ (evaluate A) (Carrier.coefficients_up W p elements) (sym (value_lift W x h))
      ∙ Carrier.evaluate_is W (map (lift W) p) (lift W x)

  -- the annihilator of a list of points, and its values
  pub annihilator_points : (points : List ℕ) → ((i : ℕ) → Member i points → i < A.size) →
      annihilator A points ≡ Carrier.values W (Polynomials.annihilator (ring W) (map (lift W) points))
  annihilator_points points elements = ap (annihilator A) (sym (map-id points)) ∙ Carrier.annihilator_up W (λ i. i) points elements

  pub annihilator_value :
      (points : List ℕ) → ((i : ℕ) → Member i points → i < A.size) → (x : ℕ) → x < A.size →
      evaluate A (annihilator A points) x ≡ (Polynomials.eval (ring W) (Polynomials.annihilator (ring W) (map (lift W) points)) (lift W x)).0
  annihilator_value points elements x h =
      ap₂ (evaluate A) (annihilator_points points elements) (sym (value_lift W x h))
      ∙ Carrier.evaluate_is W (Polynomials.annihilator (ring W) (map (lift W) points)) (lift W x)

  -- one number at the places of E, another elsewhere
  pub on_places : (E : List ℕ) (j x y : ℕ) (v w : Element A) → (Member j E → x ≡ v.0) → ((Member j E → ⊥) → y ≡ w.0) →
      cond (member j E) x y ≡ (cond (member j E) v w).0
  on_places E j x y v w e f = by_test (member j E) (λ t. e (member_only j E t)) (λ t. f (λ mj. both_ways (member j E) t (member_if j E mj)))
    where
      by_test : (b : Bool) → (b ≡ true → x ≡ v.0) → (b ≡ false → y ≡ w.0) → cond b x y ≡ (cond b v w).0
      by_test true e f = e refl
      by_test false e f = f refl

  -- a term of a word's sum
  term_is : (x : ℕ) (y : Element A) (h a k : ℕ) → x ≡ y.0 → h < A.size → a < A.size →
      times_power A (A.times x h) a k ≡ ((y ⊗ lift W h) ⊗ Polynomials.pow (ring W) (lift W a) k).0
  term_is x y h a k e hh ha =
      ap₂ (λ z b. times_power A z b k) (ap₂ A.times e (sym (value_lift W h hh)) ∙ Carrier.times_is W y (lift W h))
      (sym (value_lift W a ha))
      ∙ Carrier.times_power_is W (y ⊗ lift W h) (lift W a) k

  -- the sums of a word
  pub word_sum_is :
      {n : ℕ} {a h : ℕ → ℕ} → Theorems.Locators A n a → Theorems.Multipliers A n h → (v : ℕ → ℕ) (w : ℕ → Element A) →
      ((i : ℕ) → i < n → v i ≡ (w i).0) → (k : ℕ) → Theorems.word_sum A n a h v k ≡ (Syndromes.syndrome (ring W) n (λ i. lift W (a i))
      (λ i. lift W (h i)) w k).0
  word_sum_is {n} {a} {h} L M v w e k =
      Carrier.sum_up W n _ _ (λ i below. term_is (v i) (w i) (h i) (a i) k (e i below) (M.element i below) (L.element i below))

  pub word_sum_lift :
      {n : ℕ} {a h : ℕ → ℕ} → Theorems.Locators A n a → Theorems.Multipliers A n h → (v : ℕ → ℕ) → Theorems.Elements A n v → (k : ℕ) →
      Theorems.word_sum A n a h v k ≡ 0 → Syndromes.syndrome (ring W) n (λ i. lift W (a i)) (λ i. lift W (h i)) (λ i. lift W (v i)) k ≡ 𝟘
  word_sum_lift L M v elements k e = is_zero (sym (word_sum_is L M v (λ i. lift W (v i))
      (λ i below. sym (value_lift W (v i) (elements i below))) k) ∙ e)

  pub noted_sum_is :
      {n : ℕ} {a h : ℕ → ℕ} → Theorems.Locators A n a → Theorems.Multipliers A n h → (E : List ℕ) (u : ℕ → ℕ) (w : ℕ → Element A) →
      ((j : ℕ) → j < n → (Member j E → ⊥) → u j ≡ (w j).0) → (k : ℕ) →
      Theorems.noted_sum A n a h E u k ≡ (Syndromes.noted (ring W) n (λ i. lift W (a i)) (λ i. lift W (h i)) E w k).0
  noted_sum_is {n} {a} {h} L M E u w e k =
      Carrier.sum_up W n _ _ (λ j below. on_places E j 0 _ 𝟘 _ (λ _. sym (zero_value refl)) (λ out.
      term_is (u j) (w j) (h j) (a j) k (e j below out) (M.element j below) (L.element j below)))

module _ {m : Meaning} (laws : Laws m) where
  open (field laws).ring use {𝟘, ◌⊗◌}

  infixl 70 ◌⊗◌
  pub divide_is : (x y : Element m.arithmetic) → divide m x.0 y.0 ≡ (x ⊗ (field laws).inv y).0
  divide_is x y = ap (m.arithmetic.times x.0) (Carrier.invert_is laws y) ∙ Carrier.times_is (lawful laws) x ((field laws).inv y)

  -- where every place that passes has 0, the weight is at most the number of places that fail
  pub wt_failures : (n : ℕ) (x : ℕ → Element m.arithmetic) (test : ℕ → Bool) → ((i : ℕ) → i < n → test i ≡ true → x i ≡ 𝟘) →
      Points.wt (field laws) n x ≤ failures n test
  unfolding Points.wt Points.more_unless
  wt_failures zero x test e = omega arith
  wt_failures (suc n) x test e = step (zero? (field laws) (x n)) (test n) (e n (omega arith))
      (wt_failures n x test (λ i h. e i (omega arith)))
    where
      step : (d : Dec (x n ≡ 𝟘)) (b : Bool) {v w : ℕ} → (b ≡ true → x n ≡ 𝟘) → v ≤ w →
          Points.more_unless (field laws) d v ≤ cond b w (suc w)
      step (yes _) true z h = h
      step (yes _) false z h = omega arith
      step (no nz) true z h = absurd (nz (z refl))
      step (no _) false z h = omega arith
