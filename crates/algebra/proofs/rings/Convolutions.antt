-- Sums of products with a shifted sequence, and products with powers of X. Polynomials are functions that give each
-- power its coefficient.
use Rattle.std.proofs.Common.{◌≡◌, ℕ, zero, suc, ◌+◌, ◌-◌, ◌<◌, ◌≤◌, sym, refl, ap, ◌∙◌, ap₂, ⊎_elim, add-zero, add-suc, suc-add, arith}
use Rattle.std.proofs.lemmas.Bool.{cases_lt}
use Rattle.algebra.proofs.rings.Ring.{CommutativeRing, ⊕_𝟘, 𝟘_⊕, 𝟘_⊗, ⊕_⊗, ⊗_assoc, ⊗_left_comm, ⊖_⊗, ring_zeros}
use Rattle.algebra.proofs.rings.Sums.{Σ, Σ_zero, Σ_first, Σ_cong, Σ_⊗, Σ_⊕, Σ_⊖, Σ_𝟘, Σ_swap, Σ_split}

module _ {A : Type 0} (R : CommutativeRing A) where
  open R use {𝟘, 𝟙, ◌⊕◌, ◌⊗◌, ⊖◌}

  infixl 60 ◌⊕◌
  infixl 70 ◌⊗◌
  infixr 80 ⊖◌
  -- terms from n on that are 0 do not count
  pub Σ_bound : (n N : ℕ) (f : ℕ → A) → n ≤ N → ((i : ℕ) → n ≤ i → f i ≡ 𝟘) → Σ R N f ≡ Σ R n f
  Σ_bound n N f h e =
      let whole : N ≡ n + (N - n) = omega arith in
      ap (λ k. Σ R k f) whole ∙ Σ_split R n (N - n) f ∙ ap (λ z. Σ R n f ⊕ z) (Σ_𝟘 R (N - n) _ (λ i _. e (n + i) (omega arith))) ∙ ⊕_𝟘 R _

  -- X × f
  unfoldable pub push : (ℕ → A) → ℕ → A
  push f zero = 𝟘
  push f (suc j) = f j

  -- X^d × f; a sequence behind d zeros
  unfoldable pub shift : ℕ → (ℕ → A) → ℕ → A
  shift zero f = f
  shift (suc d) f = push (shift d f)

  pub shift_below : (d : ℕ) (f : ℕ → A) (j : ℕ) → j < d → shift d f j ≡ 𝟘
  unfolding shift push
  shift_below zero f j h = absurd (omega arith)
  shift_below (suc d) f zero h = refl
  shift_below (suc d) f (suc j) h = shift_below d f j (omega arith)

  pub shift_at : (d : ℕ) (f : ℕ → A) (k : ℕ) → shift d f (d + k) ≡ f k
  unfolding shift push
  shift_at zero f k = let e : 0 + k ≡ k = omega arith in ap f e
  shift_at (suc d) f k = let e : suc d + k ≡ suc (d + k) = omega arith in ap (push (shift d f)) e ∙ shift_at d f k

  pub shift_from : (d : ℕ) (f : ℕ → A) (j : ℕ) → d ≤ j → shift d f j ≡ f (j - d)
  shift_from d f j h = let e : j ≡ d + (j - d) = omega arith in ap (shift d f) e ∙ shift_at d f (j - d)

  -- zero where f is, d places up
  pub shift_above : (d : ℕ) (f : ℕ → A) (m : ℕ) → ((j : ℕ) → m < j → f j ≡ 𝟘) → (j : ℕ) → m + d < j → shift d f j ≡ 𝟘
  shift_above d f m above j h = shift_from d f j (omega arith) ∙ above (j - d) (omega arith)

  -- f_0 t_n + .. + f_(M−1) t_(n+M−1)
  unfoldable pub conv : ℕ → (ℕ → A) → (ℕ → A) → ℕ → A
  conv M f t n = Σ R M (λ j. f j ⊗ t (n + j))

  pub conv_bound : (m M : ℕ) (f t : ℕ → A) (n : ℕ) → m ≤ M → ((j : ℕ) → m ≤ j → f j ≡ 𝟘) → conv M f t n ≡ conv m f t n
  unfolding conv
  conv_bound m M f t n h e = Σ_bound m M _ h (λ i k. ap (λ z. z ⊗ t (n + i)) (e i k) ∙ 𝟘_⊗ R _)

  conv_push : (M : ℕ) (f t : ℕ → A) (n : ℕ) → ((j : ℕ) → M ≤ suc j → f j ≡ 𝟘) → conv M (push f) t n ≡ conv M f t (suc n)
  unfolding conv push
  conv_push zero f t n above = Σ_zero R _ ∙ sym (Σ_zero R _)
  conv_push (suc M) f t n above =
      Σ_first R M _ ∙ ap₂ ◌⊕◌ (𝟘_⊗ R _) (Σ_cong R M _ _ (λ j _. ap (λ k. f j ⊗ t k) (add-suc n j ∙ sym (suc-add n j))))
      ∙ 𝟘_⊕ R _ ∙ sym (conv_bound M (suc M) f t (suc n) (omega arith) (λ j h. above j (omega arith)))

  -- multiplying by X^d moves on by d, if no coefficient is pushed out
  pub conv_shift : (M d : ℕ) (f t : ℕ → A) (n : ℕ) → ((j : ℕ) → M ≤ d + j → f j ≡ 𝟘) → conv M (shift d f) t n ≡ conv M f t (n + d)
  unfolding shift
  conv_shift M zero f t n above = ap (conv M f t) (sym (add-zero n))
  conv_shift M (suc d) f t n above =
      conv_push M (shift d f) t n (λ j h. ⊎_elim (shift_below d f j) (λ k. shift_from d f j k ∙ above (j - d) (omega arith)) (cases_lt j d))
      ∙ conv_shift M d f t (suc n) (λ j h. above j (omega arith))
      ∙ ap (conv M f t) (suc-add n d ∙ sym (add-suc n d))

  -- x × p − y × q
  abbrev pub difference : A → (ℕ → A) → A → (ℕ → A) → ℕ → A
  difference x p y q j = x ⊗ p j ⊕ ⊖ (y ⊗ q j)

  pub conv_difference : (M : ℕ) (x : A) (p : ℕ → A) (y : A) (q t : ℕ → A) (n : ℕ) → conv M (difference x p y q) t n ≡ x ⊗ conv M p t n ⊕ ⊖ (y ⊗ conv M q t n)
  unfolding conv
  conv_difference M x p y q t n =
      Σ_cong R M _ _ (λ j _. distributed x (p j) y (q j) (t (n + j)))
      ∙ Σ_⊕ R M _ _ ∙ ap₂ ◌⊕◌ (Σ_⊗ R M x _) (Σ_⊖ R M _ ∙ ap (λ z. ⊖ z) (Σ_⊗ R M y _))
    where
      distributed : (x p y q t : A) → (x ⊗ p ⊕ ⊖ (y ⊗ q)) ⊗ t ≡ x ⊗ (p ⊗ t) ⊕ ⊖ (y ⊗ (q ⊗ t))
      distributed x p y q t = simp (⊕_⊗, ⊖_⊗, ⊗_assoc)

  -- two polynomials may be applied in either order
  pub conv_conv : (M L : ℕ) (f g t : ℕ → A) (n : ℕ) → conv M f (conv L g t) n ≡ conv L g (conv M f t) n
  unfolding conv
  conv_conv M L f g t n =
      Σ_cong R M _ _ (λ i _. sym (Σ_⊗ R L (f i) _)) ∙ Σ_swap R M L _
      ∙ Σ_cong R L _ _ (λ j _. Σ_cong R M _ _ (λ i _. turned (f i) (g j) n i j) ∙ Σ_⊗ R M (g j) _)
    where
      turned : (a b : A) (n i j : ℕ) → a ⊗ (b ⊗ t (n + i + j)) ≡ b ⊗ (a ⊗ t (n + j + i))
      turned a b n i j = ⊗_left_comm R a b _ ∙ ap (λ k. b ⊗ (a ⊗ t k)) (let e : n + i + j ≡ n + j + i = omega arith in e)

  -- w_(N−1), .., w_0 and then zeros
  unfoldable pub mirror : ℕ → (ℕ → A) → ℕ → A
  mirror zero w n = 𝟘
  mirror (suc N) w zero = w N
  mirror (suc N) w (suc n) = mirror N w n

  pub mirror_at : (N : ℕ) (w : ℕ → A) (n k : ℕ) → n + suc k ≡ N → mirror N w n ≡ w k
  unfolding mirror
  mirror_at zero w n k e = absurd (omega arith)
  mirror_at (suc N) w zero k e = let same : N ≡ k = omega arith in ap w same
  mirror_at (suc N) w (suc n) k e = mirror_at N w n k (omega arith)

  pub mirror_past : (N : ℕ) (w : ℕ → A) (k : ℕ) → mirror N w (N + k) ≡ 𝟘
  unfolding mirror
  mirror_past zero w k = refl
  mirror_past (suc N) w k = ap (mirror (suc N) w) (suc-add N k) ∙ mirror_past N w k

  mirror_push : (N : ℕ) (w : ℕ → A) (n : ℕ) → mirror N (push w) n ≡ mirror N w (suc n)
  unfolding mirror push
  mirror_push zero w n = refl
  mirror_push (suc zero) w zero = refl
  mirror_push (suc (suc N)) w zero = refl
  mirror_push (suc N) w (suc n) = mirror_push N w n

  pub mirror_shift : (N d : ℕ) (w : ℕ → A) (n : ℕ) → mirror N (shift d w) n ≡ mirror N w (n + d)
  unfolding shift
  mirror_shift N zero w n = ap (mirror N w) (sym (add-zero n))
  mirror_shift N (suc d) w n = mirror_push N (shift d w) n ∙ mirror_shift N d w (suc n) ∙ ap (mirror N w) (suc-add n d ∙ sym (add-suc n d))

  pub mirror_difference : (N : ℕ) (x : A) (p : ℕ → A) (y : A) (q : ℕ → A) (n : ℕ) → mirror N (difference x p y q) n ≡ x ⊗ mirror N p n ⊕ ⊖ (y ⊗ mirror N q n)
  unfolding mirror
  mirror_difference zero x p y q n = simp ring_zeros
  mirror_difference (suc N) x p y q zero = refl
  mirror_difference (suc N) x p y q (suc n) = mirror_difference N x p y q n
