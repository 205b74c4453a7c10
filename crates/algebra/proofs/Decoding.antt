-- The theorems about errors and erasures (specs/ErrorLocators.antt), carried from the field of elements.
use Rattle.std.proofs.Common.{◌≡◌, ℕ, suc, ◌+◌, ◌*◌, ◌<◌, ◌≤◌, Bool, true, false, cond, not, ◌&&◌, eqb, List, map, length, sym, refl, ap, ◌∙◌, inl, inr, arith}
use native.Mathlib.Decide.{ℕ_discrete}
use lib.ListN.{length-map}
use Rattle.std.proofs.lemmas.Bool.{eqb-true, eq-eqb, ne_eqb, and_from, and_parts, not-true, cond-true, cond-false}
use Rattle.algebra.specs.Meaning.{Meaning}
use Rattle.algebra.specs.Laws.{Laws}
use Rattle.algebra.specs.Places.{Member, member, failing}
use Rattle.algebra.specs.Polynomial.{AllElements, evaluate, annihilator, act}
use Rattle.algebra.specs.Theorems
use Rattle.algebra.specs.Places
use Rattle.algebra.specs.ErrorLocators.{
  agrees,
  errors,
  Received,
  modified_sum,
  FitsModified,
  FewRoots,
  LocatorFits,
  ErrorLocator,
  ErrorRoots,
  Completeness,
  OnlyNear,
}
use Rattle.algebra.proofs.Places.{member_if, member_not, member?}
use Rattle.algebra.proofs.rings.Ring.{AbstractField, ⊕_⊖, difference_zero}
use Rattle.algebra.proofs.rings.Polynomials
use Rattle.algebra.proofs.rings.Points
use Rattle.algebra.proofs.rings.Syndromes
use Rattle.algebra.proofs.Lengths.{length_annihilator}
use Rattle.algebra.proofs.Counts.{failures_two, members_few, length_failing, failing_only, failing_if, distinct_failing}
use Rattle.algebra.proofs.rings.ErrorLocators
use Rattle.algebra.proofs.elements.Carrier
use Rattle.algebra.proofs.elements.Carrier.{lawful}
use Rattle.algebra.proofs.elements.Elements
use Rattle.algebra.proofs.Numbers

pub few_roots : {m : Meaning} → Laws m → FewRoots m
few_roots laws n k a Z f L D elements roots nonzero =
    simp length-map at (Points.few_roots (Carrier.field laws) (λ i. Carrier.lift (lawful laws) (a i)) Z
    (map (Carrier.lift (lawful laws)) f) k D.distinct
    (λ i j mi mj. Elements.locators (lawful laws) L i j (D.below i mi) (D.below j mj))
    (λ j mj. Elements.is_zero (lawful laws) (sym (Elements.evaluation (lawful laws) f elements (a j) (L.element j (D.below j mj)))
    ∙ roots j mj))
    (λ e. nonzero (Elements.coefficients (lawful laws) f elements k ∙ Elements.zero_value (lawful laws) e)))

agrees_same : (E : List ℕ) (u c : ℕ → ℕ) (j : ℕ) → u j ≡ c j → agrees E u c j ≡ true
agrees_same E u c j e = by_test (member j E)
  where
    by_test : (b : Bool) → cond b true (eqb (u j) (c j)) ≡ true
    by_test true = refl
    by_test false = eq-eqb (u j) (c j) e

agrees_not : (E : List ℕ) (u c : ℕ → ℕ) (j : ℕ) → (Member j E → ⊥) → (u j ≡ c j → ⊥) → agrees E u c j ≡ false
agrees_not E u c j out differ = cond-false (member j E) true (eqb (u j) (c j)) (member_not j E out) ∙ ne_eqb (u j) (c j) differ

agrees_noted : (E : List ℕ) (u c : ℕ → ℕ) (j : ℕ) → member j E ≡ false → agrees E u c j ≡ true → u j ≡ c j
agrees_noted E u c j out t = eqb-true (u j) (c j) (sym (cond-false (member j E) true (eqb (u j) (c j)) out) ∙ t)

-- two words differ only where one of them has an error, or at an erased place
distance_errors : (n : ℕ) (E : List ℕ) (u v w : ℕ → ℕ) → Places.distance n v w ≤ errors n E u v + errors n E u w + length E
distance_errors n E u v w =
    omega (
      arith,
      members_few n E,
      failures_two n (agrees E u w) (λ j. not (member j E)) (λ j. agrees E u w j && not (member j E)) (λ j _ x y. and_from _ _ x y),
      failures_two n (agrees E u v) (λ j. agrees E u w j && not (member j E)) (λ j. eqb (v j) (w j)) (λ j _ x y.
          let (z, out) = and_parts (agrees E u w j) (not (member j E)) y in
          eq-eqb (v j) (w j) (sym (agrees_noted E u v j (not-true _ out) x) ∙ agrees_noted E u w j (not-true _ out) z)),
    )

module _ {m : Meaning} (laws : Laws m) (n r : ℕ) (a h u c : ℕ → ℕ) (E : List ℕ) (G : Received m.arithmetic n r a h u c E) where
  abbrev W : Carrier.Lawful m.arithmetic
  W = lawful laws

  abbrev K : AbstractField (Carrier.Element m.arithmetic)
  K = Carrier.field laws

  open K.ring use {𝟘, ◌⊕◌, ◌⊗◌, ⊖◌}

  infixl 60 ◌⊕◌
  infixl 70 ◌⊗◌
  infixr 80 ⊖◌
  -- the elements of a function on places
  abbrev up : (ℕ → ℕ) → ℕ → Carrier.Element m.arithmetic
  up f i = Carrier.lift W (f i)

  abbrev e : ℕ → Carrier.Element m.arithmetic
  e = Syndromes.error K.ring E (up u) (up c)

  -- where u and c agree there is no error
  no_error : (j : ℕ) → agrees E u c j ≡ true → e j ≡ 𝟘
  no_error j = by_test (member j E)
    where
      by_test : (b : Bool) → cond b true (eqb (u j) (c j)) ≡ true → cond b 𝟘 (up u j ⊕ ⊖ up c j) ≡ 𝟘
      by_test true t = refl
      by_test false t = ap (λ z. up u j ⊕ ⊖ Carrier.lift W z) (sym (eqb-true (u j) (c j) t)) ∙ ⊕_⊖ K.ring (up u j)

  -- and elsewhere there is one
  an_error : (j : ℕ) → j < n → (Member j E → ⊥) → (u j ≡ c j → ⊥) → e j ≡ 𝟘 → ⊥
  an_error j hj out differ z =
      differ (Elements.lift_injective W (u j) (c j) (G.noted j hj out) (G.letters j hj)
      (difference_zero K.ring _ _ (sym (cond-false (member j E) 𝟘 _ (member_not j E out)) ∙ z)))

  modified_sum_is : (k : ℕ) → modified_sum m.arithmetic n a h E u k ≡ (Syndromes.modified K.ring n (up a) (up h) E (up u) k).0
  modified_sum_is k =
      ap (λ p. act m.arithmetic p (Theorems.noted_sum m.arithmetic n a h E u) k)
      (Carrier.annihilator_up W a E (λ i mi. G.locators.element i (G.erased.below i mi)))
      ∙ Carrier.act_up W _ _ _ k (λ i _. Elements.noted_sum_is W G.locators G.multipliers E u (up u)
      (λ j hj out. sym (Carrier.value_lift W (u j) (G.noted j hj out))) (k + i))

  -- a polynomial of numbers applied to the modified sums
  act_modified_is :
      (f : List ℕ) (g : List (Carrier.Element m.arithmetic)) → f ≡ Carrier.values W g → (k : ℕ) →
      act m.arithmetic f (modified_sum m.arithmetic n a h E u) k ≡
      (Polynomials.act K.ring g (Syndromes.modified K.ring n (up a) (up h) E (up u)) k).0
  act_modified_is f g p k = ap (λ q. act m.arithmetic q (modified_sum m.arithmetic n a h E u) k) p
      ∙ Carrier.act_up W g _ _ k (λ i _. modified_sum_is (k + i))

  codeword : (k : ℕ) → k < r → Syndromes.syndrome K.ring n (up a) (up h) (up c) k ≡ 𝟘
  codeword k hk = Elements.word_sum_lift W G.locators G.multipliers c G.letters k (G.codeword k hk)

  locator_fits_at : (F : List ℕ) → Theorems.DistinctPlaces n F → ((j : ℕ) → j < n → (Member j E → ⊥) → (u j ≡ c j → ⊥) → Member j F) →
      FitsModified m.arithmetic n r a h u E (annihilator m.arithmetic (map a F))
  locator_fits_at F D all k hk =
      act_modified_is _ _ (Carrier.annihilator_up W a F (λ i mi. G.locators.element i (D.below i mi))) k
      ∙ Elements.zero_value W (ErrorLocators.locator_fits K n r (up a) (up h) (up u) (up c) E (Elements.locators W G.locators)
      G.erased.below (Elements.multipliers W G.multipliers) codeword F
      (λ j hj wrong. all j hj (λ mj. wrong (cond-true (member j E) 𝟘 _ (member_if j E mj)))
      (λ q. wrong (no_error j (agrees_same E u c j q)))) k
      (omega (arith, length_annihilator m.arithmetic (map a F), length-map F a)))

  error_roots_at :
      (f : List ℕ) → 2 * errors n E u c + length E ≤ r → AllElements m.arithmetic f → length f ≤ suc (errors n E u c) →
      FitsModified m.arithmetic n r a h u E f → (j : ℕ) → j < n → (Member j E → ⊥) → (u j ≡ c j → ⊥) → evaluate m.arithmetic f (a j) ≡ 0
  error_roots_at f near elements short fits j hj out differ =
      Elements.evaluation W f elements (a j) (G.locators.element j hj)
      ∙ Elements.zero_value W (ErrorLocators.error_root K n r (up a) (up h) (up u) (up c) E (Elements.locators W G.locators)
      G.erased.below (Elements.multipliers W G.multipliers) codeword
      (errors n E u c) (map (Carrier.lift W) f) (Elements.wt_failures laws n e (agrees E u c) (λ i _. no_error i)) near
      (omega (arith, length-map f (Carrier.lift W)))
      (λ k hk. Elements.is_zero W (sym (act_modified_is f _ (Carrier.coefficients_up W f elements) k)
      ∙ fits k (omega (arith, length-map f (Carrier.lift W)))))
      j hj (an_error j hj out differ))

pub locator_fits : {m : Meaning} → Laws m → LocatorFits m
locator_fits laws n r a h u c E F G D = locator_fits_at laws n r a h u c E G F D

pub error_locator : {m : Meaning} → Laws m → ErrorLocator m
error_locator {m} laws n r a h u c E G = (
  length_annihilator m.arithmetic (map a wrong) ∙ ap suc (length-map wrong a ∙ length_failing n (agrees E u c)),
  locator_fits laws n r a h u c E wrong G
      (record { below = λ j mj. (failing_only n (agrees E u c) j mj).0; distinct = distinct_failing n (agrees E u c) })
      (λ j hj out differ. failing_if n (agrees E u c) j hj (agrees_not E u c j out differ)),
)
  where
    wrong : List ℕ
    wrong = failing n (agrees E u c)

pub error_roots : {m : Meaning} → Laws m → ErrorRoots m
error_roots laws n r a h u c E f G = error_roots_at laws n r a h u c E G f

pub completeness : {m : Meaning} → Laws m → Completeness m
completeness {m} laws n r a h u c E f F G near elements short fits D few all j hj =
    elim (member? j F) [
      | inl mj ↦ Numbers.filling_only laws n r a h u c F G.locators G.multipliers G.letters D few G.codeword same j mj
          ∙ sym (cond-true (member j F) _ (u j) (member_if j F mj))
      | inr out ↦ sym (same j hj out) ∙ sym (cond-false (member j F) _ (u j) (member_not j F out))
    ]
  where
    same : (j : ℕ) → j < n → (Member j F → ⊥) → u j ≡ c j
    same j hj out =
        elim (ℕ_discrete (u j) (c j)) [
          | yes e ↦ e
          | no differ ↦ absurd (out (all j hj (inr (error_roots laws n r a h u c E f G near elements short fits j hj
              (λ mj. out (all j hj (inl mj))) differ))))
        ]

pub only_near : {m : Meaning} → Laws m → OnlyNear m
only_near laws n r a h u v w E G H near =
    Numbers.distance laws n r a h v w G.locators G.multipliers G.letters H.letters (omega (arith, distance_errors n E u v w))
    G.codeword H.codeword
