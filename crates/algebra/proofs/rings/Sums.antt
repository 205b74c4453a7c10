-- Finite sums in a commutative ring.
use Rattle.std.proofs.Common.{◌≡◌, ℕ, zero, suc, ◌+◌, ◌<◌, sym, refl, ap, ◌∙◌, add-zero, add-suc, arith}
use native.Mathlib.Decide.{ℕ_discrete}
use Rattle.algebra.proofs.rings.Ring.{CommutativeRing, ⊕_assoc, ⊕_𝟘, 𝟘_⊕, ⊗_𝟘, 𝟘_⊗, 𝟙_⊗, ⊗_⊕, ⊗_comm, ⊖_of_⊕, plus_sort, ring_zeros}

module _ {A : Type 0} (R : CommutativeRing A) where
  open R use {𝟘, 𝟙, ◌⊕◌, ◌⊗◌, ⊖◌}

  infixl 60 ◌⊕◌
  infixl 70 ◌⊗◌
  infixr 80 ⊖◌
  -- f 0 + .. + f (n − 1)
  unfoldable pub Σ : ℕ → (ℕ → A) → A
  Σ zero f = 𝟘
  Σ (suc n) f = Σ n f ⊕ f n

  pub Σ_zero : (f : ℕ → A) → Σ 0 f ≡ 𝟘
  unfolding Σ
  Σ_zero f = refl

  pub Σ_suc : (n : ℕ) (f : ℕ → A) → Σ (suc n) f ≡ Σ n f ⊕ f n
  unfolding Σ
  Σ_suc n f = refl

  -- only the terms below n count
  pub Σ_cong : (n : ℕ) (f g : ℕ → A) → ((i : ℕ) → i < n → f i ≡ g i) → Σ n f ≡ Σ n g
  Σ_cong zero f g e = simp Σ_zero
  Σ_cong (suc n) f g e = simp (Σ_suc, Σ_cong n f g (λ i h. e i (omega arith)), e n (omega arith))

  pub Σ_𝟘 : (n : ℕ) (f : ℕ → A) → ((i : ℕ) → i < n → f i ≡ 𝟘) → Σ n f ≡ 𝟘
  Σ_𝟘 zero f e = Σ_zero f
  Σ_𝟘 (suc n) f e = simp (Σ_suc, Σ_𝟘 n f (λ i h. e i (omega arith)), e n (omega arith), ⊕_𝟘)

  pub Σ_⊕ : (n : ℕ) (f g : ℕ → A) → Σ n (λ i. f i ⊕ g i) ≡ Σ n f ⊕ Σ n g
  Σ_⊕ zero f g = simp (Σ_zero, ⊕_𝟘)
  Σ_⊕ (suc n) f g = simp (Σ_suc, Σ_⊕ n f g, plus_sort)

  pub Σ_⊗ : (n : ℕ) (a : A) (f : ℕ → A) → Σ n (λ i. a ⊗ f i) ≡ a ⊗ Σ n f
  Σ_⊗ zero a f = simp (Σ_zero, ⊗_𝟘)
  Σ_⊗ (suc n) a f = simp (Σ_suc, Σ_⊗ n a f, ⊗_⊕)

  pub Σ_⊗_right : (n : ℕ) (a : A) (f : ℕ → A) → Σ n (λ i. f i ⊗ a) ≡ Σ n f ⊗ a
  Σ_⊗_right n a f = Σ_cong n _ _ (λ i _. ⊗_comm R (f i) a) ∙ Σ_⊗ n a f ∙ ⊗_comm R a (Σ n f)

  -- two sums may be exchanged
  pub Σ_swap : (n m : ℕ) (f : ℕ → ℕ → A) → Σ n (λ i. Σ m (f i)) ≡ Σ m (λ j. Σ n (λ i. f i j))
  Σ_swap zero m f = Σ_zero _ ∙ sym (Σ_𝟘 m _ (λ j h. Σ_zero _))
  Σ_swap (suc n) m f = simp (Σ_suc, Σ_swap n m f, Σ_⊕)

  -- where one term only may differ from 0, it is the sum
  pub Σ_one : (n : ℕ) (f : ℕ → A) (j : ℕ) → j < n → ((i : ℕ) → i < n → (i ≡ j → ⊥) → f i ≡ 𝟘) → Σ n f ≡ f j
  Σ_one zero f j h e = absurd (omega arith)
  Σ_one (suc n) f j h e = Σ_suc n f ∙ last_or_below (ℕ_discrete n j) (λ below. Σ_one n f j below (λ i k. e i (omega arith)))
    where
      last_or_below : Dec (n ≡ j) → (j < n → Σ n f ≡ f j) → Σ n f ⊕ f n ≡ f j
      last_or_below (yes p) _ = simp (Σ_𝟘 n f (λ i below. e i (omega arith) (λ q. omega arith)), 𝟘_⊕) (ap f p)
      last_or_below (no q) ih = simp (e n (omega arith) q, ⊕_𝟘) (ih (omega arith))

  -- the first n terms and the m after them
  pub Σ_split : (n m : ℕ) (f : ℕ → A) → Σ (n + m) f ≡ Σ n f ⊕ Σ m (λ i. f (n + i))
  Σ_split n zero f = simp (add-zero, Σ_zero, ⊕_𝟘)
  Σ_split n (suc m) f = simp (add-suc, Σ_suc, Σ_split n m f, ⊕_assoc)

  -- the first term and the others
  pub Σ_first : (n : ℕ) (f : ℕ → A) → Σ (suc n) f ≡ f 0 ⊕ Σ n (λ i. f (suc i))
  Σ_first zero f = Σ_suc 0 f ∙ simp (Σ_zero, plus_sort)
  Σ_first (suc n) f = Σ_suc (suc n) f ∙ simp (Σ_first n f, Σ_suc n (λ i. f (suc i)), ⊕_assoc)

  pub Σ_⊖ : (n : ℕ) (f : ℕ → A) → Σ n (λ i. ⊖ f i) ≡ ⊖ Σ n f
  Σ_⊖ zero f = simp (Σ_zero, ring_zeros)
  Σ_⊖ (suc n) f = simp (Σ_suc, Σ_⊖ n f, ⊖_of_⊕)

  -- x where the decision is yes, 0 otherwise
  pub keep : {P : Type 0} → Dec P → A → A
  keep (yes _) x = x
  keep (no _) x = 𝟘

  pub keep_yes : {P : Type 0} (d : Dec P) (x : A) → P → keep d x ≡ x
  unfolding keep
  keep_yes (yes _) x p = refl
  keep_yes (no h) x p = absurd (h p)

  pub keep_no : {P : Type 0} (d : Dec P) (x : A) → (P → ⊥) → keep d x ≡ 𝟘
  unfolding keep
  keep_no (yes p) x h = absurd (h p)
  keep_no (no _) x h = refl

  -- a sum with the factors 1 at k and 0 elsewhere
  pub Σ_delta : (n k : ℕ) (f : ℕ → A) → k < n → Σ n (λ i. keep (ℕ_discrete i k) 𝟙 ⊗ f i) ≡ f k
  Σ_delta n k f h =
      Σ_one n _ k h (λ i _ off. ap (λ z. z ⊗ f i) (keep_no (ℕ_discrete i k) 𝟙 off) ∙ 𝟘_⊗ R _)
      ∙ ap (λ z. z ⊗ f k) (keep_yes (ℕ_discrete k k) 𝟙 refl) ∙ 𝟙_⊗ R _

  -- a permutation p of the places below n, with inverse q, does not change the sum
  pub Σ_reorder :
      (n : ℕ) (f : ℕ → A) (p q : ℕ → ℕ) → ((i : ℕ) → i < n → p i < n) → ((i : ℕ) → i < n → q i < n) →
      ((i : ℕ) → i < n → q (p i) ≡ i) → ((i : ℕ) → i < n → p (q i) ≡ i) → Σ n (λ i. f (p i)) ≡ Σ n f
  Σ_reorder n f p q p-below q-below q-p p-q =
      Σ_cong n _ _ (λ i h. sym (Σ_one n (λ j. term i j) (p i) (p-below i h) (λ j k. keep_no (ℕ_discrete j (p i)) (f j))
      ∙ keep_yes (ℕ_discrete (p i) (p i)) _ refl))
      ∙ Σ_swap n n term
      ∙ Σ_cong n _ _ (λ j h. Σ_one n (λ i. term i j) (q j) (q-below j h)
      (λ i k off. keep_no (ℕ_discrete j (p i)) (f j) (λ e. off (sym (q-p i k) ∙ ap q (sym e))))
      ∙ keep_yes (ℕ_discrete j (p (q j))) (f j) (sym (p-q j h)))
    where
      term : ℕ → ℕ → A
      term i j = keep (ℕ_discrete j (p i)) (f j)
