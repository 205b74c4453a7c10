-- Modified syndromes and error locators: with E the erased places, the annihilator of E applied to the sums over the
-- other places leaves power sums of the errors alone; a short polynomial that is orthogonal to these is 0 at every
-- error.
use Rattle.std.proofs.Common.{◌≡◌, ℕ, suc, ◌+◌, ◌*◌, ◌<◌, ◌≤◌, Bool, true, false, cond, List, map, length, sym, ap, ◌∙◌, inl, inr, arith}
use lib.ListN.{length-map}
use Rattle.algebra.specs.Places.{Member, member}
use Rattle.algebra.proofs.Places.{member_not, member_if, member?, member_map, member_of_map, member_moved}
use Rattle.std.proofs.lemmas.Bool.{cond-true, cond-false}
use Rattle.algebra.proofs.rings.Ring.{
  CommutativeRing,
  AbstractField,
  zero?,
  𝟘_⊗,
  ⊗_𝟘,
  ⊕_𝟘,
  ⊖_𝟘,
  𝟘_⊕,
  ⊕_⊗,
  ⊖_⊗,
  ⊗_nonzero,
  zero_factor,
  times_sort,
}
use Rattle.algebra.proofs.rings.Sums.{Σ_cong, Σ_⊕, Σ_⊖, Σ_𝟘}
use Rattle.algebra.proofs.rings.Polynomials
use Rattle.algebra.proofs.rings.Points
use Rattle.algebra.proofs.rings.Syndromes.{syndrome, noted, modified, error}

-- applied to power sums, a polynomial multiplies each weight by its value at the point
module _ {A : Type 0} (K : AbstractField A) where
  open K.ring use {𝟘, 𝟙, ◌⊕◌, ◌⊗◌, ⊖◌}

  infixl 60 ◌⊕◌
  infixl 70 ◌⊗◌
  infixr 80 ⊖◌
  abbrev R : CommutativeRing A
  R = K.ring

  pub act_power_sum : (f : List A) (n : ℕ) (x a : ℕ → A) (k : ℕ) →
      Polynomials.act R f (Points.power_sum K n x a) k ≡ Points.power_sum K n (λ j. x j ⊗ Polynomials.eval R f (a j)) a k
  act_power_sum f n x a k =
      Polynomials.act_Σ R f n _ k ∙ Σ_cong R n _ _ (λ j _. Polynomials.act_powers R f (x j) (a j) k
      ∙ regroup (x j) (Polynomials.pow R (a j) k) (Polynomials.eval R f (a j)))
    where
      regroup : (x p e : A) → x ⊗ (p ⊗ e) ≡ (x ⊗ e) ⊗ p
      regroup x p e = simp times_sort

module _ {A : Type 0} (K : AbstractField A) (n r : ℕ) (a h u c : ℕ → A) (E : List ℕ)
    (inj : Points.Injective K n a) (below : (j : ℕ) → Member j E → j < n)
    (nonzero : (j : ℕ) → j < n → h j ≡ K.ring.𝟘 → ⊥) (codeword : (k : ℕ) → k < r → syndrome K.ring n a h c k ≡ K.ring.𝟘) where
  open K.ring use {𝟘, 𝟙, ◌⊕◌, ◌⊗◌, ⊖◌}

  infixl 60 ◌⊕◌
  infixl 70 ◌⊗◌
  infixr 80 ⊖◌
  abbrev pow : A → ℕ → A
  pow = Polynomials.pow K.ring

  abbrev eval : List A → A → A
  eval = Polynomials.eval K.ring

  -- the annihilator of the erased places
  abbrev B : List A
  B = Polynomials.annihilator K.ring (map a E)

  abbrev s : ℕ → A
  s = noted K.ring n a h E u

  abbrev T : ℕ → A
  T = modified K.ring n a h E u

  abbrev e : ℕ → A
  e = error K.ring E u c

  abbrev errata : ℕ → A
  errata j = cond (member j E) (⊖ c j) (u j ⊕ ⊖ c j)

  abbrev weight : ℕ → A
  weight j = (e j ⊗ h j) ⊗ eval B (a j)

  -- the noted sums are sums of the errors and of the erased letters
  noted_is : (k : ℕ) → k < r → s k ≡ Points.power_sum K n (λ j. errata j ⊗ h j) a k
  noted_is k hk =
      sym (⊕_𝟘 K.ring _) ∙ ap (λ z. s k ⊕ z) (sym (Σ_⊖ K.ring n _ ∙ ap (λ z. ⊖ z) (codeword k hk) ∙ ⊖_𝟘 K.ring))
      ∙ sym (Σ_⊕ K.ring n _ _) ∙ Σ_cong K.ring n _ _ (λ j _. either (member j E) (u j) (c j) (h j) (pow (a j) k))
    where
      either : (b : Bool) (u c h p : A) → cond b 𝟘 ((u ⊗ h) ⊗ p) ⊕ ⊖ ((c ⊗ h) ⊗ p) ≡ (cond b (⊖ c) (u ⊕ ⊖ c) ⊗ h) ⊗ p
      either true u c h p = simp (𝟘_⊕, ⊖_⊗)
      either false u c h p = simp (⊕_⊗, ⊖_⊗)

  modified_is : (k : ℕ) → k + length E < r → T k ≡ Points.power_sum K n weight a k
  modified_is k hk =
      Polynomials.act_cong K.ring B s _ k (λ i hi. noted_is (k + i) (omega (arith, length_B)))
      ∙ act_power_sum K B n (λ j. errata j ⊗ h j) a k
      ∙ Σ_cong K.ring n _ _ (λ j _. ap (λ z. z ⊗ pow (a j) k) (elim (member? j E) [
        | inl mj ↦ ap (λ z. (errata j ⊗ h j) ⊗ z) (root j mj) ∙ ⊗_𝟘 K.ring _
            ∙ sym (ap (λ z. (e j ⊗ h j) ⊗ z) (root j mj) ∙ ⊗_𝟘 K.ring _)
        | inr out ↦ ap (λ z. (z ⊗ h j) ⊗ eval B (a j)) (cond-false (member j E) _ _ (member_not j E out)
            ∙ sym (cond-false (member j E) _ _ (member_not j E out)))
      ]))
    where
      length_B : length B ≡ suc (length E)
      length_B = Polynomials.length_annihilator K.ring (map a E) ∙ ap suc (length-map E a)

      root : (j : ℕ) → Member j E → eval B (a j) ≡ 𝟘
      root j mj = Polynomials.annihilator_root K.ring (a j) (map a E) (member_map a j E mj)

  -- where there is an error, its weight is not 0
  weight_nonzero : (j : ℕ) → j < n → (e j ≡ 𝟘 → ⊥) → weight j ≡ 𝟘 → ⊥
  weight_nonzero j hj wrong =
      ⊗_nonzero K _ _ (⊗_nonzero K _ _ wrong (nonzero j hj))
      (Points.annihilator_nonroot K (map a E) (a j) (λ mj.
      let (i, mi, p) = member_of_map a (a j) E mj in
      wrong (cond-true (member j E) 𝟘 _ (member_if j E (member_moved (sym (inj j i hj (below i mi) p)) E mi)))))

  weight_light : (w : ℕ) → Points.wt K n e ≤ w → Points.wt K n weight ≤ w
  weight_light w light = omega (arith, Points.wt_⊗ K n (λ j. e j ⊗ h j) (λ j. eval B (a j)), Points.wt_⊗ K n e h)

  -- f applied to the modified sums, where only true ones count
  act_modified : (f : List A) (k : ℕ) → k + length f + length E ≤ r →
      Polynomials.act K.ring f T k ≡ Points.power_sum K n (λ j. weight j ⊗ eval f (a j)) a k
  act_modified f k hk =
      Polynomials.act_cong K.ring f T _ k (λ i hi. modified_is (k + i) (omega arith)) ∙ act_power_sum K f n weight a k

  -- a polynomial with at most w + 1 coefficients that fits the modified sums is 0 at each of at most w errors
  pub error_root :
      (w : ℕ) (f : List A) → Points.wt K n e ≤ w → 2 * w + length E ≤ r → length f ≤ suc w →
      ((k : ℕ) → k + length f + length E ≤ r → Polynomials.act K.ring f T k ≡ 𝟘) →
      (j : ℕ) → j < n → (e j ≡ 𝟘 → ⊥) → eval f (a j) ≡ 𝟘
  error_root w f light near short fits j hj wrong =
      zero_factor K (weight j) (eval f (a j)) (weight_nonzero j hj wrong)
      (Points.kernel K n w a (λ j. weight j ⊗ eval f (a j)) inj
      (omega (arith, weight_light w light, Points.wt_⊗ K n weight (λ j. eval f (a j))))
      (λ k hk. sym (act_modified f k (omega arith)) ∙ fits k (omega arith)) j hj)

  -- the annihilator of a list of places with all errors in it fits the modified sums
  pub locator_fits :
      (W : List ℕ) → ((j : ℕ) → j < n → (e j ≡ 𝟘 → ⊥) → Member j W) → (k : ℕ) → k + suc (length W) + length E ≤ r →
      Polynomials.act K.ring (Polynomials.annihilator K.ring (map a W)) T k ≡ 𝟘
  locator_fits W all k hk =
      act_modified locator k (omega (arith, length_locator))
      ∙ Σ_𝟘 K.ring n _ (λ j hj. ap (λ z. z ⊗ pow (a j) k) (elim (zero? K (e j)) [
        | yes z ↦ ap (λ z. ((z ⊗ h j) ⊗ eval B (a j)) ⊗ eval locator (a j)) z ∙ simp 𝟘_⊗
        | no wrong ↦ ap (λ z. weight j ⊗ z) (Polynomials.annihilator_root K.ring (a j) (map a W)
            (member_map a j W (all j hj wrong))) ∙ ⊗_𝟘 K.ring _
      ])
      ∙ 𝟘_⊗ K.ring _)
    where
      locator : List A
      locator = Polynomials.annihilator K.ring (map a W)

      length_locator : length locator ≡ suc (length W)
      length_locator = Polynomials.length_annihilator K.ring (map a W) ∙ ap suc (length-map W a)
