-- The theorems about numbers (specs/Theorems.antt), carried from the ring or field of elements.
use Rattle.std.proofs.Common.{◌≡◌, ℕ, zero, suc, ◌+◌, ◌<◌, ◌≤◌, Bool, true, false, cond, eqb, List, map, length, get_or, sym, refl, ap, ◌∙◌, ap₂, inl, inr, arith}
use native.Mathlib.Decide.{dec_lt}
use lib.ListN.{length-map}
use Rattle.std.proofs.lemmas.Bool.{eqb-true}
use Rattle.algebra.specs.Meaning.{Arithmetic, Meaning}
use Rattle.algebra.specs.Laws.{Total, RingLaws, Laws}
use Rattle.algebra.specs.Places.{Member, member, without}
use Rattle.algebra.specs.Power.{times_power, power, sum}
use Rattle.algebra.specs.Polynomial.{AllElements, negate, evaluate, quotient_linear, act, divide}
use Rattle.algebra.specs.Theorems
use Rattle.algebra.proofs.Places.{
  member_only,
  member?,
  member_moved,
  member_map,
  member_without,
  member_of_map,
  distinct_map,
  places,
  length_places,
  places_below,
  distinct_places,
}
use Rattle.algebra.proofs.rings.Ring.{CommutativeRing, AbstractField, 𝟘_⊗, ⊕_⊖}
use Rattle.algebra.proofs.rings.Sums.{Σ_reorder}
use Rattle.algebra.proofs.rings.Polynomials
use Rattle.algebra.proofs.Lengths.{times_power_element}
use Rattle.algebra.proofs.RingFacts.{times_zero}
use Rattle.algebra.proofs.rings.Points
use Rattle.algebra.proofs.rings.Interpolation
use Rattle.algebra.proofs.rings.Syndromes
use Rattle.algebra.proofs.rings.Filling
use Rattle.algebra.proofs.elements.Carrier
use Rattle.algebra.proofs.elements.Elements

module _ (A : Arithmetic) (total : Total A) (laws : RingLaws A) where
  abbrev W : Carrier.Lawful A
  W = record { total = total; ring = laws }

  abbrev up : ℕ → Carrier.Element A
  up = Carrier.lift W

  abbrev R : CommutativeRing (Carrier.Element A)
  R = Carrier.ring W

  power_up : (a k : ℕ) → a < A.size → power A a k ≡ (Polynomials.pow R (up a) k).0
  power_up a k h = ap (λ b. power A b k) (sym (Carrier.value_lift W a h)) ∙ Carrier.power_is W (up a) k

  pub times_power_is : Theorems.TimesPowerIs A
  times_power_is x a k h = by_cases (dec_lt a A.size) k
    where
      by_cases : Dec (a < A.size) → (k : ℕ) → times_power A x a k ≡ A.times x (power A a k)
      by_cases (yes ha) k =
          Carrier.times_power_up W x a k h ha
          ∙ sym (ap₂ A.times (sym (Carrier.value_lift W x h)) (power_up a k ha)
          ∙ Carrier.times_is W (up x) (Polynomials.pow R (up a) k))
      by_cases (no out) zero = sym (laws.times_one x h)
      by_cases (no out) (suc k) =
          total.times_outside _ a (inr (omega arith)) ∙ sym
          (ap (A.times x) (total.times_outside _ a (inr (omega arith))) ∙ times_zero A total laws x h)

  pub reordering : Theorems.Reordering A
  reordering n f p q elements p-below q-below q-p p-q =
      Carrier.sum_up W n _ (λ i. up (f (p i))) (λ i h. sym (Carrier.value_lift W (f (p i)) (elements (p i) (p-below i h))))
      ∙ ap (λ z. z.0) (Σ_reorder R n (λ i. up (f i)) p q p-below q-below q-p p-q)
      ∙ sym (Carrier.sum_up W n f (λ i. up (f i)) (λ i h. sym (Carrier.value_lift W (f i) (elements i h))))

  pub word_reordering : Theorems.WordReordering A
  word_reordering n k a h v p q =
      reordering n (λ j. times_power A (A.times (v j) (h j)) (a j) k) p q
      (λ j _. times_power_element total _ (a j) k (total.times_element (v j) (h j)))

  pub division : Theorems.Division A
  division a x p ha hx elements =
      Elements.evaluation W p elements x hx
      ∙ ap (λ z. z.0) (Polynomials.eval_quo R (up a) (map up p) (up x))
      ∙ sym (ap₂ A.plus (Elements.evaluation W p elements a ha)
      (ap₂ A.times (ap₂ A.minus (sym (Carrier.value_lift W x hx)) (sym (Carrier.value_lift W a ha))
      ∙ Carrier.minus_is W (up x) (up a))
      (ap₂ (evaluate A) (ap₂ (quotient_linear A) (sym (Carrier.value_lift W a ha)) (Carrier.coefficients_up W p elements)
      ∙ Carrier.quotient_linear_is W (up a) (map up p)) (sym (Carrier.value_lift W x hx))
      ∙ Carrier.evaluate_is W (Polynomials.quo R (up a) (map up p)) (up x))
      ∙ Carrier.times_is W _ _)
      ∙ Carrier.plus_is W _ _)

  pub annihilator_monic : Theorems.AnnihilatorMonic A
  annihilator_monic points elements =
      ap₂ (λ q k. get_or q k 0) (Elements.annihilator_points W points elements) (sym (length-map points up))
      ∙ Carrier.coefficient_is W (Polynomials.annihilator R (map up points)) (length (map up points))
      ∙ ap (λ z. z.0) (Polynomials.annihilator_monic R (map up points)) ∙ Carrier.one_is W

  pub annihilator_roots : Theorems.AnnihilatorRoots A
  annihilator_roots points elements x m =
      Elements.annihilator_value W points elements x (elements x m)
      ∙ Elements.zero_value W (Polynomials.annihilator_root R (up x) (map up points) (member_map up x points m))

  pub cofactor_is : Theorems.CofactorIs A
  cofactor_is a E elements distinct j m =
      Carrier.cofactor_up W a E elements j m
      ∙ ap (Carrier.values W) (Filling.cofactor_is R (λ i. up (a i)) E distinct j m)
      ∙ sym (Carrier.annihilator_up W a (without j E) (λ i w. elements i (member_without i j E w)))

module _ {m : Meaning} (laws : Laws m) where
  abbrev A : Arithmetic
  A = m.arithmetic

  abbrev S : Carrier.Lawful A
  S = Carrier.lawful laws

  abbrev K : AbstractField (Carrier.Element A)
  K = Carrier.field laws

  abbrev lift : ℕ → Carrier.Element A
  lift = Carrier.lift S

  open K.ring use {𝟘, ◌⊕◌, ◌⊗◌, ⊖◌}

  infixl 60 ◌⊕◌
  infixl 70 ◌⊗◌
  infixr 80 ⊖◌
  pub kernel : Theorems.Kernel m
  kernel n r a x L elements light sums i h =
      Elements.lift_zero S (x i) (elements i h)
      (Points.kernel K n r (λ i. lift (a i)) (λ i. lift (x i)) (Elements.locators S L)
      (omega (
        arith,
        Elements.wt_failures laws n (λ i. lift (x i)) (λ i. eqb (x i) 0)
            (λ i h e. ap lift (eqb-true (x i) 0 e) ∙ Elements.is_zero S (Carrier.value_lift S 0 (omega (arith, laws.total.smallest)))),
      ))
      (λ k hk. Elements.is_zero S (sym (Carrier.sum_up S n _ _
      (λ i h. Carrier.times_power_up S (x i) (a i) k (elements i h) (L.element i h))) ∙ sums k hk))
      i h)

  pub root_count : Theorems.RootCount m
  root_count n a p L elements short roots k =
      Elements.coefficients S p elements k
      ∙ Elements.zero_value S (Points.root_count K (map point (places n)) (map lift p)
      (distinct_map point (places n) (distinct_places n)
      (λ i j mi mj. Elements.locators S L i j (places_below n i mi) (places_below n j mj)))
      (simp (length-map p lift, length-map (places n) point, length_places) short) root k)
    where
      point : ℕ → Carrier.Element A
      point i = lift (a i)

      root : (b : Carrier.Element A) → Member b (map point (places n)) → Polynomials.eval K.ring (map lift p) b ≡ 𝟘
      root b mb =
          let (i, mi, e) = member_of_map point b (places n) mb in
          let h : i < n = places_below n i mi in
          ap (Polynomials.eval K.ring (map lift p)) e ∙ Elements.is_zero S
          (sym (Elements.evaluation S p elements (a i) (L.element i h)) ∙ roots i h)

  pub annihilator_roots_only : Theorems.AnnihilatorRootsOnly m
  annihilator_roots_only points elements x hx e =
      elim (member? x points) [
        | inl mx ↦ mx
        | inr out ↦ absurd (Points.annihilator_nonroot K (map lift points) (lift x)
            (λ mb. let (y, my, p) = member_of_map lift (lift x) points mb in
            out (member_moved (sym (Elements.lift_injective S x y hx (elements y my) p)) points my))
            (Elements.is_zero S (sym (Elements.annihilator_value S points elements x hx) ∙ e)))
      ]

  pub distance : Theorems.Distance m
  distance n r a h v w L M ev ew near sv sw i below =
      Elements.lift_injective S (v i) (w i) (ev i below) (ew i below)
      (Filling.distance K n r (λ i. lift (a i)) (λ i. lift (h i)) (λ i. lift (v i)) (λ i. lift (w i)) (Elements.locators S L)
      (Elements.multipliers S M)
      (omega (
        arith,
        Elements.wt_failures laws n (λ i. lift (v i) ⊕ ⊖ lift (w i)) (λ i. eqb (v i) (w i))
            (λ i _ e. ap (λ z. lift (v i) ⊕ ⊖ lift z) (sym (eqb-true (v i) (w i) e)) ∙ ⊕_⊖ K.ring (lift (v i))),
      ))
      (λ k hk. Elements.word_sum_lift S L M v ev k (sv k hk)) (λ k hk. Elements.word_sum_lift S L M w ew k (sw k hk)) i below)

module _ {m : Meaning} (laws : Laws m) (n : ℕ) (a : ℕ → ℕ) (E : List ℕ) (L : Theorems.Locators m.arithmetic n a)
    (D : Theorems.DistinctPlaces n E) where
  open (K laws).ring use {𝟘, ◌⊗◌}

  infixl 70 ◌⊗◌
  abbrev Element : Type 0
  Element = Carrier.Element m.arithmetic

  abbrev locator : ℕ → Element
  locator i = lift laws (a i)

  abbrev P : ℕ → List Element
  P = Interpolation.cofactor (K laws).ring locator E

  points : Interpolation.Points n locator E
  points = record {
    below = D.below;
    distinct = D.distinct;
    injective = λ i j mi mj. Elements.locators (S laws) L i j (D.below i mi)
        (D.below j mj);
  }

  cofactor_up : (j : ℕ) → Member j E → Theorems.cofactor m.arithmetic a E j ≡ Carrier.values (S laws) (P j)
  cofactor_up = Carrier.cofactor_up (S laws) a E (λ i mi. L.element i (D.below i mi))

  -- the cofactor's value at its own point, and its action
  own_value : (j : ℕ) → Member j E → evaluate m.arithmetic (Theorems.cofactor m.arithmetic a E j) (a j) ≡ (Polynomials.eval
      (K laws).ring (P j) (locator j)).0
  own_value j mj =
      ap₂ (evaluate m.arithmetic) (cofactor_up j mj) (sym (Carrier.value_lift (S laws) (a j) (L.element j (D.below j mj))))
      ∙ Carrier.evaluate_is (S laws) (P j) (locator j)

  action :
      (j : ℕ) → Member j E → (s : ℕ → ℕ) (t : ℕ → Element) → ((k : ℕ) → k < length E → s k ≡ (t k).0) →
      act m.arithmetic (Theorems.cofactor m.arithmetic a E j) s 0 ≡ (Polynomials.act (K laws).ring (P j) t 0).0
  action j mj s t e =
      ap (λ p. act m.arithmetic p s 0) (cofactor_up j mj)
      ∙ Carrier.act_up (S laws) (P j) s t 0 (λ k h. e (0 + k)
      (omega (arith, Interpolation.length_cofactor (K laws) n locator E points j)))

  -- a number at the places of E, 0 elsewhere
  at_place : (j : ℕ) (x : ℕ) (y z : Element) → (Member j E → x ≡ (y ⊗ z).0) → cond (member j E) x 0 ≡ (cond (member j E) y 𝟘 ⊗ z).0
  at_place j x y z e = by_test (member j E) (λ t. e (member_only j E t))
    where
      by_test : (b : Bool) → (b ≡ true → x ≡ (y ⊗ z).0) → cond b x 0 ≡ (cond b y 𝟘 ⊗ z).0
      by_test true e = e refl
      by_test false e = sym (Elements.zero_value (S laws) (𝟘_⊗ (K laws).ring z))

  interpolation_at : (p : List ℕ) → AllElements m.arithmetic p → length p ≤ length E → (k : ℕ) → k < length E →
      get_or p k 0 ≡
      sum m.arithmetic n (λ j.
      cond (member j E)
      (m.arithmetic.times (divide m (evaluate m.arithmetic p (a j))
      (evaluate m.arithmetic (Theorems.cofactor m.arithmetic a E j) (a j)))
      (get_or (Theorems.cofactor m.arithmetic a E j) k 0))
      0)
  unfolding Interpolation.lagrange
  interpolation_at p elements short k h =
      Elements.coefficients (S laws) p elements k
      ∙ ap (λ z. z.0) (Interpolation.interpolation (K laws) n locator E points (map (lift laws) p) (simp length-map short) k h)
      ∙ sym (Carrier.sum_up (S laws) n _ _ (λ j below. at_place j _ _ (Polynomials.coeff (K laws).ring (P j) k) (λ mj.
      ap₂ m.arithmetic.times
      (ap₂ (divide m) (Elements.evaluation (S laws) p elements (a j) (L.element j below)) (own_value j mj)
      ∙ Elements.divide_is laws _ _)
      (ap (λ q. get_or q k 0) (cofactor_up j mj) ∙ Carrier.coefficient_is (S laws) (P j) k)
      ∙ Carrier.times_is (S laws) _ _)))

  surjectivity_at : (y : ℕ → ℕ) → Theorems.Elements m.arithmetic (length E) y → (k : ℕ) → k < length E →
      sum m.arithmetic n (λ j. cond (member j E) (times_power m.arithmetic (Theorems.solution m a E y j) (a j) k) 0) ≡ y k
  unfolding Interpolation.weights
  surjectivity_at y elements k h =
      Carrier.sum_up (S laws) n _ _ (λ j below. at_place j _ _ (Polynomials.pow (K laws).ring (locator j) k) (λ mj.
      ap₂ (λ x b. times_power m.arithmetic x b k)
      (ap₂ (divide m) (action j mj y (λ i. lift laws (y i)) (λ i hi. sym (Carrier.value_lift (S laws) (y i) (elements i hi))))
      (own_value j mj) ∙ Elements.divide_is laws _ _)
      (sym (Carrier.value_lift (S laws) (a j) (L.element j below)))
      ∙ Carrier.times_power_is (S laws) _ (locator j) k))
      ∙ ap (λ z. z.0) (Interpolation.surjectivity (K laws) n locator E points (λ i. lift laws (y i)) k h)
      ∙ Carrier.value_lift (S laws) (y k) (elements k h)

  module _ (h : ℕ → ℕ) (M : Theorems.Multipliers m.arithmetic n h) where
    abbrev multiplier : ℕ → Element
    multiplier i = lift laws (h i)

    erased_letter_is : (T : ℕ → ℕ) (t : ℕ → Element) → ((k : ℕ) → T k ≡ (t k).0) → (j : ℕ) → Member j E →
        Theorems.erased_letter m a h E T j ≡ (Filling.letter (K laws) n locator E points multiplier t j).0
    unfolding Filling.letter
    erased_letter_is T t e j mj =
        ap₂ (divide m)
        (ap (negate m.arithmetic) (action j mj T t (λ k _. e k)) ∙ Carrier.negate_is (S laws) _)
        (ap₂ m.arithmetic.times (sym (Carrier.value_lift (S laws) (h j) (M.element j (D.below j mj)))) (own_value j mj)
        ∙ Carrier.times_is (S laws) _ _)
        ∙ Elements.divide_is laws _ _

    filling_only_at :
        (r : ℕ) (u v : ℕ → ℕ) → Theorems.Elements m.arithmetic n v → length E ≤ r →
        ((k : ℕ) → k < r → Theorems.word_sum m.arithmetic n a h v k ≡ 0) →
        ((j : ℕ) → j < n → (Member j E → ⊥) → u j ≡ v j) → (j : ℕ) → Member j E →
        v j ≡ Theorems.erased_letter m a h E (Theorems.noted_sum m.arithmetic n a h E u) j
    filling_only_at r u v elements few sums same j mj =
        sym (Carrier.value_lift (S laws) (v j) (elements j (D.below j mj)))
        ∙ ap (λ z. z.0) (Filling.erased_letter (K laws) n locator E points multiplier r word few
        (λ k hk. Elements.word_sum_lift (S laws) L M v elements k (sums k hk))
        j mj (Elements.multipliers (S laws) M j (D.below j mj)))
        ∙ sym (erased_letter_is _ _ (Elements.noted_sum_is (S laws) L M E u word
        (λ i below out. same i below out ∙ sym (Carrier.value_lift (S laws) (v i) (elements i below)))) j mj)
      where
        word : ℕ → Element
        word i = lift laws (v i)

    filling_makes_at :
        (u : ℕ → ℕ) → ((j : ℕ) → j < n → (Member j E → ⊥) → u j < m.arithmetic.size) → (k : ℕ) → k < length E →
        Theorems.word_sum m.arithmetic n a h (λ j. cond (member j E)
        (Theorems.erased_letter m a h E (Theorems.noted_sum m.arithmetic n a h E u) j) (u j)) k ≡ 0
    filling_makes_at u elements k hk =
        Elements.word_sum_is (S laws) L M _ (λ j. cond (member j E) (Filling.letter (K laws) n locator E points multiplier sums j) (word j))
        (λ j below. Elements.on_places (S laws) E j _ _ _ _
        (λ mj. erased_letter_is _ sums (Elements.noted_sum_is (S laws) L M E u word noted_word) j mj) (noted_word j below)) k
        ∙ Elements.zero_value (S laws) (Filling.erased_letters_fit (K laws) n locator E points multiplier word
        (λ j mj. Elements.multipliers (S laws) M j (D.below j mj)) k hk)
      where
        word : ℕ → Element
        word i = lift laws (u i)

        sums : ℕ → Element
        sums = Syndromes.noted (K laws).ring n locator multiplier E word

        noted_word : (j : ℕ) → j < n → (Member j E → ⊥) → u j ≡ (word j).0
        noted_word j below out = sym (Carrier.value_lift (S laws) (u j) (elements j below out))

pub interpolation : {m : Meaning} → Laws m → Theorems.Interpolation m
interpolation laws n a E p L D = interpolation_at laws n a E L D p

pub surjectivity : {m : Meaning} → Laws m → Theorems.Surjectivity m
surjectivity laws n a y E L D = surjectivity_at laws n a E L D y

pub filling_only : {m : Meaning} → Laws m → Theorems.FillingOnly m
filling_only laws n r a h u v E L M elements D = filling_only_at laws n a E L D h M r u v elements

pub filling_makes : {m : Meaning} → Laws m → Theorems.FillingMakes m
filling_makes laws n a h u E L M elements D = filling_makes_at laws n a E L D h M u elements
