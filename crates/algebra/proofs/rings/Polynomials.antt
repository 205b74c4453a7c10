-- Polynomials over a commutative ring, as lists of coefficients with the constant term first: powers, evaluation,
-- the product with X − a, synthetic division by X − a, annihilators, and the action on sequences.
use Rattle.std.proofs.Common.{◌≡◌, ℕ, zero, suc, pred, ◌+◌, ◌<◌, ◌≤◌, List, [], ◌∷◌, length, get_or, sym, refl, ap, ◌∙◌, ap₂, inl, inr, add-zero, add-suc, suc-add, arith}
use Rattle.algebra.specs.Places.{Member}
use Rattle.algebra.proofs.rings.Ring.{
  CommutativeRing,
  ⊕_assoc,
  ⊕_𝟘,
  𝟘_⊕,
  ⊗_𝟘,
  𝟘_⊗,
  ⊗_𝟙,
  𝟙_⊗,
  ⊗_⊕,
  ⊗_comm,
  ⊕_cross,
  ⊗_left_comm,
  ⊗_⊖,
  ⊖_⊖,
  ⊖_𝟘,
  ⊖_of_⊕,
  plus_sort,
  times_sort,
  ring_zeros,
  ring_laws,
}
use Rattle.algebra.proofs.rings.Sums.{Σ, Σ_zero, Σ_suc, Σ_first, Σ_cong, Σ_⊗, Σ_𝟘}

module _ {A : Type 0} (R : CommutativeRing A) where
  open R use {𝟘, 𝟙, ◌⊕◌, ◌⊗◌, ⊖◌}

  infixl 60 ◌⊕◌
  infixl 70 ◌⊗◌
  infixr 80 ⊖◌
  -- a^k
  unfoldable pub pow : A → ℕ → A
  pow a zero = 𝟙
  pow a (suc k) = pow a k ⊗ a

  pub pow_zero : (a : A) → pow a 0 ≡ 𝟙
  unfolding pow
  pow_zero a = refl

  pub pow-suc : (a : A) (k : ℕ) → pow a (suc k) ≡ a ⊗ pow a k
  unfolding pow
  pow-suc a k = ⊗_comm R (pow a k) a

  pub pow_+ : (a : A) (k l : ℕ) → pow a (k + l) ≡ pow a k ⊗ pow a l
  pow_+ a k zero = simp (add-zero, pow_zero, ⊗_𝟙)
  pow_+ a k (suc l) = simp (add-suc, pow-suc, pow_+ a k l, times_sort)

  -- p(x), by Horner's rule
  unfoldable pub eval : List A → A → A
  eval [] x = 𝟘
  eval (c ∷ p) x = c ⊕ x ⊗ eval p x

  pub eval_[] : (x : A) → eval [] x ≡ 𝟘
  unfolding eval
  eval_[] x = refl

  pub eval_∷ : (c : A) (p : List A) (x : A) → eval (c ∷ p) x ≡ c ⊕ x ⊗ eval p x
  unfolding eval
  eval_∷ c p x = refl

  -- the coefficient of X^k; 0 past the end
  abbrev pub coeff : List A → ℕ → A
  coeff p k = get_or p k 𝟘

  -- every coefficient is 0
  abbrev pub Zero : List A → Type 0
  Zero p = (k : ℕ) → coeff p k ≡ 𝟘

  -- p(x) in powers of x, for every bound on the length
  pub eval_powers : (n : ℕ) (p : List A) (x : A) → length p ≤ n → eval p x ≡ Σ R n (λ k. coeff p k ⊗ pow x k)
  eval_powers n [] x h = eval_[] x ∙ sym (Σ_𝟘 R n _ (λ k _. 𝟘_⊗ R (pow x k)))
  eval_powers zero (c ∷ p) x h = absurd (omega arith)
  eval_powers (suc n) (c ∷ p) x h =
      eval_∷ c p x
      ∙ ap₂ ◌⊕◌ (sym (ap (λ z. c ⊗ z) (pow_zero x) ∙ ⊗_𝟙 R c))
      (ap (λ z. x ⊗ z) (eval_powers n p x (omega arith)) ∙ sym (Σ_⊗ R n x _) ∙ Σ_cong R n _ _ (λ k _. next (coeff p k) k))
      ∙ sym (Σ_first R n (λ k. coeff (c ∷ p) k ⊗ pow x k))
    where
      next : (d : A) (k : ℕ) → x ⊗ (d ⊗ pow x k) ≡ d ⊗ pow x (suc k)
      next d k = simp (pow-suc, times_sort)

  -- the list of n given coefficients
  unfoldable pub coeffs : ℕ → (ℕ → A) → List A
  coeffs zero f = []
  coeffs (suc n) f = f 0 ∷ coeffs n (λ k. f (suc k))

  pub length_coeffs : (n : ℕ) (f : ℕ → A) → length (coeffs n f) ≡ n
  unfolding coeffs
  length_coeffs zero f = refl
  length_coeffs (suc n) f = ap suc (length_coeffs n (λ k. f (suc k)))

  pub coeff_coeffs : (n : ℕ) (f : ℕ → A) (k : ℕ) → k < n → coeff (coeffs n f) k ≡ f k
  unfolding coeffs
  coeff_coeffs zero f k h = absurd (omega arith)
  coeff_coeffs (suc n) f zero h = refl
  coeff_coeffs (suc n) f (suc k) h = coeff_coeffs n (λ k. f (suc k)) k (omega arith)

  -- c + (X − a) p; where c is 0, the product with X − a
  unfoldable pub plus_linear : A → A → List A → List A
  plus_linear c a [] = c ∷ []
  plus_linear c a (d ∷ p) = (c ⊕ ⊖ (a ⊗ d)) ∷ plus_linear d a p

  abbrev pub linear_product : A → List A → List A
  linear_product a p = plus_linear 𝟘 a p

  pub length_plus_linear : (c a : A) (p : List A) → length (plus_linear c a p) ≡ suc (length p)
  unfolding plus_linear
  length_plus_linear c a [] = refl
  length_plus_linear c a (d ∷ p) = ap suc (length_plus_linear d a p)

  pub eval_plus_linear : (c a : A) (p : List A) (x : A) → eval (plus_linear c a p) x ≡ c ⊕ (x ⊕ ⊖ a) ⊗ eval p x
  unfolding plus_linear
  eval_plus_linear c a [] x = simp (eval_∷, eval_[], ⊗_𝟘)
  eval_plus_linear c a (d ∷ p) x = simp (eval_∷, eval_plus_linear d a p x) (regroup c a d x (eval p x))
    where
      regroup : (c a d x e : A) → (c ⊕ ⊖ (a ⊗ d)) ⊕ x ⊗ (d ⊕ (x ⊕ ⊖ a) ⊗ e) ≡ c ⊕ (x ⊕ ⊖ a) ⊗ (d ⊕ x ⊗ e)
      regroup c a d x e = simp ring_laws

  -- the leading coefficient stays
  pub last_plus_linear : (c a d : A) (p : List A) → coeff (plus_linear c a (d ∷ p)) (suc (length p)) ≡ coeff (d ∷ p) (length p)
  unfolding plus_linear
  last_plus_linear c a d [] = refl
  last_plus_linear c a d (e ∷ p) = last_plus_linear d a e p

  -- the order of two linear factors does not matter
  pub plus_linear_comm : (c d a b : A) (p : List A) → plus_linear c a (plus_linear d b p) ≡ plus_linear (c ⊕ (b ⊗ d ⊕ ⊖ (a ⊗ d))) b
      (plus_linear d a p)
  unfolding plus_linear
  plus_linear_comm c d a b [] = ap (λ z. z ∷ d ∷ []) (sym (ap (λ z. (c ⊕ (b ⊗ d ⊕ ⊖ (a ⊗ d))) ⊕ z) (sym (⊕_𝟘 R (⊖ (b ⊗ d))))
      ∙ ⊕_cross R c (⊖ (a ⊗ d)) (b ⊗ d) 𝟘 ∙ simp ⊕_𝟘))
  plus_linear_comm c d a b (e ∷ p) = ap₂ ◌∷◌ constant (plus_linear_comm (d ⊕ ⊖ (b ⊗ e)) e a b p
      ∙ ap (λ z. plus_linear z b (plus_linear e a p)) (simp (⊕_assoc, ring_zeros)))
    where
      constant : c ⊕ ⊖ (a ⊗ (d ⊕ ⊖ (b ⊗ e))) ≡ (c ⊕ (b ⊗ d ⊕ ⊖ (a ⊗ d))) ⊕ ⊖ (b ⊗ (d ⊕ ⊖ (a ⊗ e)))
      constant = simp (⊗_⊕, ⊗_⊖, ⊖_of_⊕, ⊖_⊖) (ap (λ z. c ⊕ (⊖ (a ⊗ d) ⊕ z)) (⊗_left_comm R a b e)
          ∙ sym (⊕_cross R c (⊖ (a ⊗ d)) (b ⊗ d) (b ⊗ (a ⊗ e))))

  -- synthetic division by X − a: the quotient
  unfoldable pub quo : A → List A → List A
  quo a [] = []
  quo a (c ∷ []) = []
  quo a (c ∷ d ∷ p) = eval (d ∷ p) a ∷ quo a (d ∷ p)

  pub quo_∷ : (a c : A) (p : List A) → 0 < length p → quo a (c ∷ p) ≡ eval p a ∷ quo a p
  unfolding quo
  quo_∷ a c [] h = absurd (omega arith)
  quo_∷ a c (d ∷ p) h = refl

  pub length_quo : (a : A) (p : List A) → length (quo a p) ≡ pred (length p)
  unfolding quo
  length_quo a [] = refl
  length_quo a (c ∷ []) = refl
  length_quo a (c ∷ d ∷ p) = ap suc (length_quo a (d ∷ p))

  -- division with remainder p(a)
  pub divides : (a c : A) (p : List A) → plus_linear (eval (c ∷ p) a) a (quo a (c ∷ p)) ≡ c ∷ p
  unfolding plus_linear quo
  divides a c [] = ap (λ z. z ∷ []) (simp (eval_∷, eval_[], ⊗_𝟘, ⊕_𝟘))
  divides a c (d ∷ p) = ap₂ ◌∷◌ (ap (λ z. z ⊕ ⊖ (a ⊗ eval (d ∷ p) a)) (eval_∷ c (d ∷ p) a) ∙ simp (⊕_assoc, ring_zeros)) (divides a d p)

  pub eval_quo : (a : A) (p : List A) (x : A) → eval p x ≡ eval p a ⊕ (x ⊕ ⊖ a) ⊗ eval (quo a p) x
  unfolding quo
  eval_quo a [] x = simp (eval_[], ring_zeros)
  eval_quo a (c ∷ p) x = ap (λ q. eval q x) (sym (divides a c p)) ∙ eval_plus_linear (eval (c ∷ p) a) a (quo a (c ∷ p)) x

  -- where the quotient and the remainder are 0, so is the polynomial
  pub quo_zero : (a : A) (p : List A) → Zero (quo a p) → eval p a ≡ 𝟘 → Zero p
  unfolding quo
  quo_zero a [] z e k = refl
  quo_zero a (c ∷ []) z e zero = sym (simp (eval_∷, eval_[], ⊗_𝟘, ⊕_𝟘)) ∙ e
  quo_zero a (c ∷ []) z e (suc k) = refl
  quo_zero a (c ∷ d ∷ p) z e zero = sym (eval_∷ c (d ∷ p) a ∙ ap (λ w. c ⊕ a ⊗ w) (z 0) ∙ simp ring_zeros) ∙ e
  quo_zero a (c ∷ d ∷ p) z e (suc k) = quo_zero a (d ∷ p) (λ j. z (suc j)) (z 0) k

  -- the quotient of what was multiplied
  pub quo_plus_linear : (c a : A) (p : List A) → quo a (plus_linear c a p) ≡ p
  unfolding plus_linear
  quo_plus_linear c a [] = unfold quo in refl
  quo_plus_linear c a (d ∷ p) =
      quo_∷ a _ (plus_linear d a p) (simp length_plus_linear (omega arith))
      ∙ ap₂ ◌∷◌ (eval_plus_linear d a p a ∙ simp ring_zeros) (quo_plus_linear d a p)

  -- the monic polynomial that is 0 at the given points: the product of all X − a
  unfoldable pub annihilator : List A → List A
  annihilator [] = 𝟙 ∷ []
  annihilator (a ∷ ps) = linear_product a (annihilator ps)

  pub length_annihilator : (ps : List A) → length (annihilator ps) ≡ suc (length ps)
  unfolding annihilator
  length_annihilator [] = refl
  length_annihilator (a ∷ ps) = length_plus_linear 𝟘 a (annihilator ps) ∙ ap suc (length_annihilator ps)

  pub eval_annihilator_[] : (x : A) → eval (annihilator []) x ≡ 𝟙
  unfolding annihilator
  eval_annihilator_[] x = simp (eval_∷, eval_[], ⊗_𝟘, ⊕_𝟘)

  pub eval_annihilator : (a : A) (ps : List A) (x : A) → eval (annihilator (a ∷ ps)) x ≡ (x ⊕ ⊖ a) ⊗ eval (annihilator ps) x
  unfolding annihilator
  eval_annihilator a ps x = eval_plus_linear 𝟘 a (annihilator ps) x ∙ 𝟘_⊕ R _

  -- it is monic
  pub annihilator_monic : (ps : List A) → coeff (annihilator ps) (length ps) ≡ 𝟙
  unfolding annihilator
  annihilator_monic [] = refl
  annihilator_monic (a ∷ ps) = leads (annihilator ps) (length_annihilator ps) ∙ annihilator_monic ps
    where
      leads : (p : List A) → length p ≡ suc (length ps) → coeff (linear_product a p) (suc (length ps)) ≡ coeff p (length ps)
      leads [] e = absurd (omega arith)
      leads (d ∷ p) e = let k : length p ≡ length ps = omega arith in rw (← k) (last_plus_linear 𝟘 a d p)

  -- it is 0 at each of its points
  pub annihilator_root : (a : A) (ps : List A) → Member a ps → eval (annihilator ps) a ≡ 𝟘
  annihilator_root a [] h = absurd h
  annihilator_root a (b ∷ ps) (inl e) = eval_annihilator b ps a ∙ ap (λ z. (a ⊕ ⊖ z) ⊗ eval (annihilator ps) a) (sym e) ∙ simp ring_zeros
  annihilator_root a (b ∷ ps) (inr h) = eval_annihilator b ps a ∙ simp (annihilator_root a ps h, ⊗_𝟘)

  -- the quotient by X − a of a product with X − b
  pub quo_times_linear : (a b c : A) (p : List A) → quo a (linear_product b (c ∷ p)) ≡ plus_linear (eval (c ∷ p) a) b (quo a (c ∷ p))
  quo_times_linear a b c p =
      ap (λ q. quo a (linear_product b q)) (sym (divides a c p))
      ∙ ap (quo a) (plus_linear_comm 𝟘 (eval (c ∷ p) a) b a (quo a (c ∷ p)))
      ∙ quo_plus_linear _ a (plus_linear (eval (c ∷ p) a) b (quo a (c ∷ p)))

  -- and its value at a, which is the product rule for derivatives
  pub eval_quo_times_linear : (a b : A) (p : List A) → eval (quo a (linear_product b p)) a ≡ eval p a ⊕ (a ⊕ ⊖ b) ⊗ eval (quo a p) a
  eval_quo_times_linear a b [] = unfold plus_linear quo in simp (eval_[], ring_zeros)
  eval_quo_times_linear a b (c ∷ p) = ap (λ q. eval q a) (quo_times_linear a b c p) ∙ eval_plus_linear (eval (c ∷ p) a) b (quo a (c ∷ p)) a

  pub eval_quo_annihilator :
      (a b : A) (ps : List A) →
      eval (quo a (annihilator (b ∷ ps))) a ≡ eval (annihilator ps) a ⊕ (a ⊕ ⊖ b) ⊗ eval (quo a (annihilator ps)) a
  unfolding annihilator
  eval_quo_annihilator a b ps = eval_quo_times_linear a b (annihilator ps)

  pub annihilator_∷ : (a : A) (ps : List A) → annihilator (a ∷ ps) ≡ linear_product a (annihilator ps)
  unfolding annihilator
  annihilator_∷ a ps = refl

  -- a root may be taken out of the annihilator: it is the first point,
  pub quo_annihilator_here : (a : A) (ps : List A) → quo a (annihilator (a ∷ ps)) ≡ annihilator ps
  unfolding annihilator
  quo_annihilator_here a ps = quo_plus_linear 𝟘 a (annihilator ps)

  -- or it stands among the others
  pub quo_annihilator_there : (a b : A) (ps : List A) → Member a ps → quo a (annihilator (b ∷ ps)) ≡ linear_product b (quo a (annihilator ps))
  unfolding annihilator
  quo_annihilator_there a b ps m = taken (annihilator ps) (rw (length_annihilator ps) (omega arith)) (annihilator_root a ps m)
    where
      taken : (p : List A) → 0 < length p → eval p a ≡ 𝟘 → quo a (linear_product b p) ≡ linear_product b (quo a p)
      taken [] h e = absurd (omega arith)
      taken (c ∷ p) h e = quo_times_linear a b c p ∙ ap (λ z. plus_linear z b (quo a (c ∷ p))) e

  -- the sequence k ↦ p_0 s_k + p_1 s_(k+1) + .. : X acts on a sequence by dropping its first term
  unfoldable pub act : List A → (ℕ → A) → ℕ → A
  act [] s k = 𝟘
  act (c ∷ p) s k = c ⊗ s k ⊕ act p s (suc k)

  pub act_[] : (s : ℕ → A) (k : ℕ) → act [] s k ≡ 𝟘
  unfolding act
  act_[] s k = refl

  pub act_∷ : (c : A) (p : List A) (s : ℕ → A) (k : ℕ) → act (c ∷ p) s k ≡ c ⊗ s k ⊕ act p s (suc k)
  unfolding act
  act_∷ c p s k = refl

  -- only length p terms from k on count
  pub act_cong : (p : List A) (s t : ℕ → A) (k : ℕ) → ((i : ℕ) → i < length p → s (k + i) ≡ t (k + i)) → act p s k ≡ act p t k
  act_cong [] s t k e = act_[] s k ∙ sym (act_[] t k)
  act_cong (c ∷ p) s t k e =
      act_∷ c p s k
      ∙ ap₂ ◌⊕◌ (ap (λ z. c ⊗ z) (simp add-zero at (e 0 (omega arith))))
      (act_cong p s t (suc k) (λ i h. simp suc-add (simp add-suc at (e (suc i) (omega arith)))))
      ∙ sym (act_∷ c p t k)

  pub act_𝟘 : (p : List A) (s : ℕ → A) (k : ℕ) → ((i : ℕ) → i < length p → s (k + i) ≡ 𝟘) → act p s k ≡ 𝟘
  act_𝟘 p s k e = act_cong p s (λ _. 𝟘) k e ∙ zeros p k
    where
      zeros : (p : List A) (k : ℕ) → act p (λ _. 𝟘) k ≡ 𝟘
      zeros [] k = act_[] _ k
      zeros (c ∷ p) k = simp (act_∷, zeros p (suc k), ring_zeros)

  pub act_⊕ : (p : List A) (s t : ℕ → A) (k : ℕ) → act p (λ i. s i ⊕ t i) k ≡ act p s k ⊕ act p t k
  act_⊕ [] s t k = simp (act_[], ⊕_𝟘)
  act_⊕ (c ∷ p) s t k = simp (act_∷, act_⊕ p s t (suc k), ⊗_⊕, plus_sort)

  pub act_⊗ : (p : List A) (a : A) (s : ℕ → A) (k : ℕ) → act p (λ i. a ⊗ s i) k ≡ a ⊗ act p s k
  act_⊗ [] a s k = simp (act_[], ⊗_𝟘)
  act_⊗ (c ∷ p) a s k = simp (act_∷, act_⊗ p a s (suc k), ⊗_⊕, times_sort)

  pub act_⊖ : (p : List A) (s : ℕ → A) (k : ℕ) → act p (λ i. ⊖ s i) k ≡ ⊖ act p s k
  act_⊖ [] s k = simp (act_[], ⊖_𝟘)
  act_⊖ (c ∷ p) s k = simp (act_∷, act_⊖ p s (suc k), ⊗_⊖, ⊖_of_⊕)

  pub act_Σ : (p : List A) (n : ℕ) (f : ℕ → ℕ → A) (k : ℕ) → act p (λ i. Σ R n (λ j. f j i)) k ≡ Σ R n (λ j. act p (f j) k)
  act_Σ p zero f k = act_𝟘 p _ k (λ i _. Σ_zero R _) ∙ sym (Σ_zero R _)
  act_Σ p (suc n) f k = act_cong p _ _ k (λ i _. Σ_suc R n _) ∙ act_⊕ p _ _ k ∙ ap (λ z. z ⊕ act p (f n) k) (act_Σ p n f k)
      ∙ sym (Σ_suc R n _)

  -- on the powers of a, p acts as the factor p(a)
  pub act_powers : (p : List A) (x a : A) (k : ℕ) → act p (λ i. x ⊗ pow a i) k ≡ x ⊗ (pow a k ⊗ eval p a)
  act_powers [] x a k = simp (act_[], eval_[], ⊗_𝟘)
  act_powers (c ∷ p) x a k = simp (act_∷, eval_∷, act_powers p x a (suc k), pow-suc, ⊗_⊕, times_sort)

  pub act_powers_first : (p : List A) (x a : A) → act p (λ i. x ⊗ pow a i) 0 ≡ x ⊗ eval p a
  act_powers_first p x a = act_powers p x a 0 ∙ simp (pow_zero, 𝟙_⊗)

  pub act_shift : (p : List A) (s : ℕ → A) (k : ℕ) → act p (λ i. s (suc i)) k ≡ act p s (suc k)
  act_shift [] s k = simp act_[]
  act_shift (c ∷ p) s k = simp (act_∷, act_shift p s (suc k))

  -- the actions of two polynomials may be exchanged
  pub act_act : (p q : List A) (s : ℕ → A) (k : ℕ) → act p (act q s) k ≡ act q (act p s) k
  act_act [] q s k = act_[] _ k ∙ sym (act_𝟘 q _ k (λ i _. act_[] s _))
  act_act (c ∷ p) q s k =
      act_∷ c p (act q s) k
      ∙ ap (λ z. c ⊗ act q s k ⊕ z) (act_act p q s (suc k) ∙ sym (act_shift q (act p s) k))
      ∙ sym (act_cong q (act (c ∷ p) s) (λ i. c ⊗ s i ⊕ act p s (suc i)) k (λ i _. act_∷ c p s _)
      ∙ act_⊕ q (λ i. c ⊗ s i) (λ i. act p s (suc i)) k
      ∙ ap (λ z. z ⊕ act q (λ i. act p s (suc i)) k) (act_⊗ q c s k))

  -- p as a sum over any bound on its length
  pub act_sum : (n : ℕ) (p : List A) (s : ℕ → A) (k : ℕ) → length p ≤ n → act p s k ≡ Σ R n (λ j. coeff p j ⊗ s (k + j))
  act_sum n [] s k h = act_[] s k ∙ sym (Σ_𝟘 R n _ (λ j _. 𝟘_⊗ R _))
  act_sum zero (c ∷ p) s k h = absurd (omega arith)
  act_sum (suc n) (c ∷ p) s k h =
      act_∷ c p s k ∙ ap₂ ◌⊕◌ (simp add-zero) (act_sum n p s (suc k) (omega arith) ∙ Σ_cong R n _ _ (λ j _. simp (suc-add, add-suc)))
      ∙ sym (Σ_first R n (λ j. coeff (c ∷ p) j ⊗ s (k + j)))
