-- Distinct points of a field: weights whose power sums are 0 are 0, and a polynomial other than 0 has no more roots
-- than its degree.
use Rattle.std.proofs.Common.{◌≡◌, ℕ, zero, suc, ◌<◌, ◌≤◌, List, [], ◌∷◌, map, length, sym, refl, ap, ◌∙◌, inl, inr, arith}
use native.Mathlib.Decide.{ℕ_discrete}
use lib.ListN.{length-map}
use Rattle.std.proofs.lemmas.Bool.{cases_lt}
use Rattle.algebra.specs.Places.{Member, Distinct}
use Rattle.algebra.proofs.Places.{member_moved, member_of_map, distinct_map}
use Rattle.algebra.proofs.rings.Ring.{
  CommutativeRing,
  AbstractField,
  zero?,
  ⊕_𝟘,
  𝟘_⊕,
  𝟘_⊗,
  ⊗_𝟙,
  ⊗_comm,
  zero_factor,
  ⊗_nonzero,
  difference_nonzero,
  ring_zeros,
  ring_laws,
}
use Rattle.algebra.proofs.rings.Sums.{Σ, Σ_suc, Σ_cong, Σ_⊗, Σ_⊕, Σ_𝟘}
use Rattle.algebra.proofs.rings.Polynomials

module _ {A : Type 0} (K : AbstractField A) where
  open K.ring use {𝟘, 𝟙, ◌⊕◌, ◌⊗◌, ⊖◌}

  infixl 60 ◌⊕◌
  infixl 70 ◌⊗◌
  infixr 80 ⊖◌
  abbrev R : CommutativeRing A
  R = K.ring

  abbrev pow : A → ℕ → A
  pow = Polynomials.pow R

  abbrev eval : List A → A → A
  eval = Polynomials.eval R

  abbrev quo : A → List A → List A
  quo = Polynomials.quo R

  abbrev annihilator : List A → List A
  annihilator = Polynomials.annihilator R

  -- one more unless the decision is yes
  unfoldable pub more_unless : {P : Type 0} → Dec P → ℕ → ℕ
  more_unless (yes _) w = w
  more_unless (no _) w = suc w

  -- the number of places below n where x is not 0
  unfoldable pub wt : ℕ → (ℕ → A) → ℕ
  wt zero x = 0
  wt (suc n) x = more_unless (zero? K (x n)) (wt n x)

  -- a factor adds no nonzero place
  pub wt_⊗ : (n : ℕ) (x c : ℕ → A) → wt n (λ i. x i ⊗ c i) ≤ wt n x
  unfolding wt more_unless
  wt_⊗ zero x c = omega arith
  wt_⊗ (suc n) x c = step (zero? K (x n ⊗ c n)) (zero? K (x n)) (wt_⊗ n x c)
    where
      step : (d : Dec (x n ⊗ c n ≡ 𝟘)) (e : Dec (x n ≡ 𝟘)) {v w : ℕ} → v ≤ w → more_unless d v ≤ more_unless e w
      step (yes _) (yes _) h = h
      step (yes _) (no _) h = omega arith
      step (no d) (yes e) h = absurd (d (ap (λ z. z ⊗ c n) e ∙ 𝟘_⊗ R (c n)))
      step (no _) (no _) h = omega arith

  -- distinct values at the places below n
  abbrev pub Injective : ℕ → (ℕ → A) → Type 0
  Injective n a = (i j : ℕ) → i < n → j < n → a i ≡ a j → i ≡ j

  -- the power sums Σ x_i a_i^k
  abbrev pub power_sum : ℕ → (ℕ → A) → (ℕ → A) → ℕ → A
  power_sum n x a k = Σ R n (λ i. x i ⊗ pow (a i) k)

  abbrev Kernel : ℕ → Type 0
  Kernel n =
      (r : ℕ) (a x : ℕ → A) → Injective n a → wt n x ≤ r → ((k : ℕ) → k < r → power_sum n x a k ≡ 𝟘) →
      (i : ℕ) → i < n → x i ≡ 𝟘

  -- the sums of x_i (a_i − b)
  shifted : (n : ℕ) (a x : ℕ → A) (b : A) (k : ℕ) → power_sum n (λ i. x i ⊗ (a i ⊕ ⊖ b)) a k ≡ power_sum n x a
      (suc k) ⊕ ⊖ b ⊗ power_sum n x a k
  shifted n a x b k =
      Σ_cong R n _ _ (λ i _. term (x i) (a i) (pow (a i) k) (Polynomials.pow-suc R (a i) k))
      ∙ Σ_⊕ R n _ _ ∙ ap (λ z. power_sum n x a (suc k) ⊕ z) (Σ_⊗ R n (⊖ b) _)
    where
      term : (x a p : A) {q : A} → q ≡ a ⊗ p → (x ⊗ (a ⊕ ⊖ b)) ⊗ p ≡ x ⊗ q ⊕ ⊖ b ⊗ (x ⊗ p)
      term x a p e = rw e (simp ring_laws)

  drops : (x a p : A) → (x ⊗ (a ⊕ ⊖ a)) ⊗ p ≡ 𝟘
  drops x a p = simp ring_zeros

  kernel_step : (n : ℕ) → Kernel n → (r : ℕ) (a x : ℕ → A) → Injective (suc n) a → (d : Dec (x n ≡ 𝟘)) → more_unless d (wt n x) ≤ r →
      ((k : ℕ) → k < r → power_sum (suc n) x a k ≡ 𝟘) → (i : ℕ) → i < suc n → x i ≡ 𝟘
  unfolding more_unless
  kernel_step n ih r a x inj (yes e) w s i h =
      elim (ℕ_discrete i n) [
        | yes p ↦ rw p e
        | no q ↦ ih r a x (λ i j hi hj. inj i j (omega arith) (omega arith)) w
            (λ k hk. sym (Σ_suc R n _ ∙ ap (λ z. power_sum n x a k ⊕ z ⊗ pow (a n) k) e ∙ simp ring_zeros) ∙ s k hk) i (omega arith)
      ]
  kernel_step n ih zero a x inj (no d) w s i h = absurd (omega arith)
  kernel_step n ih (suc r) a x inj (no d) w s i h = absurd (d last)
    where
      y : ℕ → A
      y i = x i ⊗ (a i ⊕ ⊖ a n)

      below : (k : ℕ) → k < r → power_sum n y a k ≡ 𝟘
      below k hk =
          sym (Σ_suc R n (λ i. y i ⊗ pow (a i) k) ∙ ap (λ z. power_sum n y a k ⊕ z) (drops (x n) (a n) (pow (a n) k)) ∙ ⊕_𝟘 R _)
          ∙ shifted (suc n) a x (a n) k
          ∙ simp (s (suc k) (omega arith), s k (omega arith), ring_zeros)

      others : (i : ℕ) → i < n → x i ≡ 𝟘
      others i hi =
          zero_factor K (a i ⊕ ⊖ a n) (x i) (difference_nonzero K (a i) (a n)
          (λ e. let q : i ≡ n = inj i n (omega arith) (omega arith) e in omega arith))
          (⊗_comm R _ (x i) ∙ ih r a y (λ i j hi hj. inj i j (omega arith) (omega arith))
          (omega (arith, wt_⊗ n x (λ i. a i ⊕ ⊖ a n))) below i hi)

      last : x n ≡ 𝟘
      last =
          sym (ap (λ z. x n ⊗ z) (Polynomials.pow_zero R (a n)) ∙ ⊗_𝟙 R (x n)) ∙ sym (𝟘_⊕ R _)
          ∙ ap (λ z. z ⊕ x n ⊗ pow (a n) 0) (sym (Σ_𝟘 R n _ (λ i hi. ap (λ z. z ⊗ pow (a i) 0) (others i hi) ∙ 𝟘_⊗ R _)))
          ∙ sym (Σ_suc R n _) ∙ s 0 (omega arith)

  -- weights with at most r nonzero places, whose first r power sums at distinct points are 0, are all 0
  pub kernel : (n : ℕ) → Kernel n
  kernel zero r a x inj w s i h = absurd (omega arith)
  kernel (suc n) r a x inj w s i h = kernel_step n (kernel n) r a x inj (zero? K (x n)) (unfold wt in w) s i h

  -- where p(b) is 0, a root of p other than b is a root of the quotient by X − b
  pub quo_root : (b : A) (p : List A) (x : A) → (x ≡ b → ⊥) → eval p b ≡ 𝟘 → eval p x ≡ 𝟘 → eval (quo b p) x ≡ 𝟘
  quo_root b p x off at_b at_x =
      zero_factor K (x ⊕ ⊖ b) (eval (quo b p) x) (difference_nonzero K x b off)
      (sym (Polynomials.eval_quo R b p x ∙ ap (λ z. z ⊕ (x ⊕ ⊖ b) ⊗ eval (quo b p) x) at_b ∙ 𝟘_⊕ R _) ∙ at_x)

  -- a polynomial with at least as many distinct roots as coefficients has all coefficients 0
  pub root_count : (ps f : List A) → Distinct ps → length f ≤ length ps → ((b : A) → Member b ps → eval f b ≡ 𝟘) → Polynomials.Zero R f
  root_count [] [] d h z k = refl
  root_count [] (c ∷ f) d h z k = absurd (omega arith)
  root_count (b ∷ ps) f d h z k =
      Polynomials.quo_zero R b f
      (root_count ps (quo b f) d.1 (rw (Polynomials.length_quo R b f) (omega arith))
      (λ c m. quo_root b f c (λ e. d.0 (member_moved e ps m)) (z b (inl refl)) (z c (inr m))))
      (z b (inl refl)) k

  -- a polynomial other than 0 has fewer roots than coefficients
  pub few_roots :
      (a : ℕ → A) (Z : List ℕ) (f : List A) (k : ℕ) → Distinct Z → ((i j : ℕ) → Member i Z → Member j Z → a i ≡ a j → i ≡ j) →
      ((j : ℕ) → Member j Z → eval f (a j) ≡ 𝟘) → (Polynomials.coeff R f k ≡ 𝟘 → ⊥) → length Z < length f
  few_roots a Z f k d inj roots nonzero =
      elim (cases_lt (length Z) (length f)) [
        | inl h ↦ h
        | inr h ↦ absurd (nonzero (root_count (map a Z) f (distinct_map a Z d inj) (omega (arith, length-map Z a)) (λ b mb.
            let (j, mj, e) = member_of_map a b Z mb in ap (eval f) e ∙ roots j mj) k))
      ]

  -- the annihilator is 0 at its points only
  pub annihilator_nonroot : (ps : List A) (x : A) → (Member x ps → ⊥) → eval (annihilator ps) x ≡ 𝟘 → ⊥
  annihilator_nonroot [] x h e = K.one_not_zero (sym (Polynomials.eval_annihilator_[] R x) ∙ e)
  annihilator_nonroot (b ∷ ps) x h e =
      ⊗_nonzero K (x ⊕ ⊖ b) (eval (annihilator ps) x) (difference_nonzero K x b (λ p. h (inl p)))
      (annihilator_nonroot ps x (λ m. h (inr m)))
      (sym (Polynomials.eval_annihilator R b ps x) ∙ e)

  -- its points are simple roots: the quotient by X − a is not 0 at a
  pub annihilator_simple : (ps : List A) (a : A) → Distinct ps → Member a ps → eval (quo a (annihilator ps)) a ≡ 𝟘 → ⊥
  annihilator_simple [] a d m e = m
  annihilator_simple (b ∷ ps) a d (inl p) e =
      annihilator_nonroot ps a (λ m. d.0 (member_moved p ps m))
      (sym (Polynomials.eval_quo_annihilator R a b ps ∙ ap (λ z. eval (annihilator ps) a ⊕ (a ⊕ ⊖ z) ⊗ eval (quo a (annihilator ps)) a)
      (sym p) ∙ simp ring_zeros) ∙ e)
  annihilator_simple (b ∷ ps) a d (inr m) e =
      ⊗_nonzero K (a ⊕ ⊖ b) (eval (quo a (annihilator ps)) a) (difference_nonzero K a b (λ p. d.0 (member_moved p ps m)))
      (annihilator_simple ps a d.1 m)
      (sym (Polynomials.eval_quo_annihilator R a b ps ∙ ap (λ z. z ⊕ (a ⊕ ⊖ b) ⊗ eval (quo a (annihilator ps)) a)
      (Polynomials.annihilator_root R a ps m) ∙ 𝟘_⊕ R _) ∙ e)
