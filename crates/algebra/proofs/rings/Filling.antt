-- Words whose power sums with column multipliers are 0: two such words that differ in few places are equal, and the
-- letters at few erased places follow from the others.
use Rattle.std.proofs.Common.{◌≡◌, ℕ, ◌+◌, ◌<◌, ◌≤◌, Bool, true, false, cond, List, [], ◌∷◌, map, length, sym, refl, ap, ◌∙◌, ap₂, inl, inr, arith}
use Rattle.algebra.specs.Places.{Member, Distinct, member, without}
use Rattle.algebra.proofs.Places.{member_only, member_map, member_moved, without_here, without_there, without_absent}
use Rattle.algebra.proofs.rings.Ring.{
  CommutativeRing,
  AbstractField,
  ⊕_𝟘,
  𝟘_⊕,
  𝟘_⊗,
  ⊗_assoc,
  ⊗_comm,
  ⊕_comm,
  ⊕_⊗,
  ⊖_⊗,
  ⊖_unique,
  ⊖_⊕,
  inv_product,
  ⊗_solve,
  ⊗_nonzero,
  zero_factor,
  difference_zero,
  times_sort,
  ring_zeros,
}
use Rattle.algebra.proofs.rings.Sums.{Σ, Σ_cong, Σ_⊕, Σ_⊖}
use Rattle.algebra.proofs.rings.Polynomials
use Rattle.algebra.proofs.rings.Syndromes.{syndrome, noted}
use Rattle.algebra.proofs.rings.Points.{Injective, wt, wt_⊗, kernel}
use Rattle.algebra.proofs.rings.Interpolation.{
  Points,
  inside,
  cofactor,
  length_cofactor,
  cofactor_own,
  cofactor_other,
  inside_one,
  weights,
  surjectivity,
}

-- the cofactor of a place is the annihilator of the others
pub cofactor_is :
    {A : Type 0} (R : CommutativeRing A) (a : ℕ → A) (E : List ℕ) → Distinct E → (j : ℕ) → Member j E →
    cofactor R a E j ≡ Polynomials.annihilator R (map a (without j E))
cofactor_is R a [] d j m = absurd m
cofactor_is R a (i ∷ E) d j (inl e) =
    ap (λ z. Polynomials.quo R (a j) (Polynomials.annihilator R (z ∷ map a E))) (ap a (sym e))
    ∙ Polynomials.quo_annihilator_here R (a j) (map a E)
    ∙ ap (λ l. Polynomials.annihilator R (map a l)) (sym (without_here i j E (sym e)
    ∙ without_absent j E (λ m. d.0 (member_moved e E m))))
cofactor_is R a (i ∷ E) d j (inr m) =
    Polynomials.quo_annihilator_there R (a j) (a i) (map a E) (member_map a j E m)
    ∙ ap (Polynomials.linear_product R (a i)) (cofactor_is R a E d.1 j m)
    ∙ sym (Polynomials.annihilator_∷ R (a i) (map a (without j E)))
    ∙ ap (λ l. Polynomials.annihilator R (map a l)) (sym (without_there i j E (λ e. d.0 (member_moved (sym e) E m))))

module _ {A : Type 0} (K : AbstractField A) where
  open K.ring use {𝟘, 𝟙, ◌⊕◌, ◌⊗◌, ⊖◌}

  infixl 60 ◌⊕◌
  infixl 70 ◌⊗◌
  infixr 80 ⊖◌
  abbrev R : CommutativeRing A
  R = K.ring

  abbrev pow : A → ℕ → A
  pow = Polynomials.pow R

  abbrev eval : List A → A → A
  eval = Polynomials.eval R

  -- words with r sums 0 that differ in at most r places are equal
  pub distance :
      (n r : ℕ) (a h v w : ℕ → A) → Injective K n a → ((i : ℕ) → i < n → h i ≡ 𝟘 → ⊥) → wt K n (λ i. v i ⊕ ⊖ w i) ≤ r →
      ((k : ℕ) → k < r → syndrome R n a h v k ≡ 𝟘) → ((k : ℕ) → k < r → syndrome R n a h w k ≡ 𝟘) → (i : ℕ) → i < n → v i ≡ w i
  distance n r a h v w inj nonzero near sv sw i below =
      difference_zero R (v i) (w i) (zero_factor K (h i) (v i ⊕ ⊖ w i) (nonzero i below) (⊗_comm R (h i) _ ∙
      kernel K n r a (λ i. (v i ⊕ ⊖ w i) ⊗ h i) inj (omega (arith, wt_⊗ K n (λ i. v i ⊕ ⊖ w i) h))
      (λ k hk. Σ_cong R n _ _ (λ i _. simp (⊕_⊗, ⊖_⊗)) ∙ Σ_⊕ R n _ _ ∙ ap₂ ◌⊕◌ (sv k hk) (Σ_⊖ R n _ ∙ ap (λ z. ⊖ z) (sw k hk))
      ∙ simp ring_zeros) i below))

module _ {A : Type 0} (K : AbstractField A) (n : ℕ) (a : ℕ → A) (E : List ℕ) (points : Points n a E) (h : ℕ → A) where
  open K.ring use {𝟘, 𝟙, ◌⊕◌, ◌⊗◌, ⊖◌}

  infixl 60 ◌⊕◌
  infixl 70 ◌⊗◌
  infixr 80 ⊖◌
  abbrev P : ℕ → List A
  P = cofactor K.ring a E

  -- the letter at the erased place j, from the sums S over the others
  unfoldable pub letter : (ℕ → A) → ℕ → A
  letter S j =
      ⊖ Polynomials.act K.ring (cofactor K.ring a E j) S 0
      ⊗ K.inv (h j ⊗ Polynomials.eval K.ring (cofactor K.ring a E j) (a j))

  -- the sums of a word, erased and other places apart
  apart :
      (v : ℕ → A) (k : ℕ) →
      syndrome (R K) n a h v k ≡ Σ (R K) n (λ i. inside (R K) E (λ i. v i ⊗ h i) i ⊗ pow K (a i) k) ⊕ noted (R K) n a h E v k
  apart v k = Σ_cong (R K) n _ _ (λ i _. either (member i E) (v i ⊗ h i) (pow K (a i) k)) ∙ Σ_⊕ (R K) n _ _
    where
      either : (b : Bool) (x p : A) → x ⊗ p ≡ cond b x 𝟘 ⊗ p ⊕ cond b 𝟘 (x ⊗ p)
      either true x p = sym (⊕_𝟘 (R K) _)
      either false x p = sym (simp (𝟘_⊗, 𝟘_⊕))

  -- a word with r sums 0 has at its erased places, at most r, the letters that the others give
  pub erased_letter :
      (r : ℕ) (v : ℕ → A) → length E ≤ r → ((k : ℕ) → k < r → syndrome (R K) n a h v k ≡ 𝟘) → (j : ℕ) → Member j E → (h j ≡ 𝟘 → ⊥) →
      v j ≡ letter (noted (R K) n a h E v) j
  unfolding letter
  erased_letter r v few s j m nonzero =
      ⊗_solve K (h j ⊗ eval K (P j) (a j)) (v j) _ (⊗_nonzero K _ _ nonzero (cofactor_own K n a E points j m))
      (regroup (h j) (eval K (P j) (a j)) (v j) ∙ ⊖_unique (R K) _ _ (⊕_comm (R K) _ _ ∙ total))
    where
      regroup : (h e v : A) → (h ⊗ e) ⊗ v ≡ (v ⊗ h) ⊗ e
      regroup h e v = simp times_sort

      total : (v j ⊗ h j) ⊗ eval K (P j) (a j) ⊕ Polynomials.act (R K) (P j) (noted (R K) n a h E v) 0 ≡ 𝟘
      total =
          ap (λ z. z ⊕ Polynomials.act (R K) (P j) (noted (R K) n a h E v) 0)
          (sym (Polynomials.act_Σ (R K) (P j) n _ 0
          ∙ Σ_cong (R K) n _ _ (λ i _. Polynomials.act_powers_first (R K) (P j) _ (a i))
          ∙ inside_one K n a E points (λ i. v i ⊗ h i) (λ i. eval K (P j) (a i)) j m
          (λ i mi off. cofactor_other K n a E points i j mi m off)))
          ∙ sym (Polynomials.act_⊕ (R K) (P j) _ (noted (R K) n a h E v) 0)
          ∙ Polynomials.act_𝟘 (R K) (P j) _ 0 (λ i below. sym (apart v (0 + i))
          ∙ s (0 + i) (omega (arith, length_cofactor K n a E points j)))

  -- with as many erased places as sums, the letters so made give sums 0, whatever the others are
  pub erased_letters_fit : (u : ℕ → A) → ((j : ℕ) → Member j E → h j ≡ 𝟘 → ⊥) → (k : ℕ) → k < length E →
      syndrome (R K) n a h (λ i. cond (member i E) (letter (noted (R K) n a h E u) i) (u i)) k ≡ 𝟘
  unfolding letter weights
  erased_letters_fit u nonzero k below =
      Σ_cong (R K) n _ _ (λ i _. either (member i E) (letter (noted (R K) n a h E u) i) (u i) (h i) (weights K n a E points y i)
      (pow K (a i) k) (λ e. made i (member_only i E e)))
      ∙ Σ_⊕ (R K) n _ _ ∙ ap (λ z. z ⊕ noted (R K) n a h E u k) (surjectivity K n a E points y k below) ∙ ⊖_⊕ (R K) _
    where
      y : ℕ → A
      y k = ⊖ noted (R K) n a h E u k

      either : (b : Bool) (l u h x p : A) → (b ≡ true → l ⊗ h ≡ x) → (cond b l u ⊗ h) ⊗ p ≡ cond b x 𝟘 ⊗ p ⊕ cond b 𝟘 ((u ⊗ h) ⊗ p)
      either true l u h x p e = ap (λ z. z ⊗ p) (e refl) ∙ sym (⊕_𝟘 (R K) _)
      either false l u h x p e = sym (simp (𝟘_⊗, 𝟘_⊕))

      made : (i : ℕ) → Member i E → letter (noted (R K) n a h E u) i ⊗ h i ≡ weights K n a E points y i
      made i m =
          ⊗_assoc (R K) _ _ (h i)
          ∙ ap₂ ◌⊗◌ (sym (Polynomials.act_⊖ (R K) (P i) (noted (R K) n a h E u) 0))
          (inv_product K (h i) (eval K (P i) (a i)) (nonzero i m) (cofactor_own K n a E points i m))
