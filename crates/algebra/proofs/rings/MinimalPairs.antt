-- Minimal pairs over an abstract field: what a step of the algorithm does to a pair, and why nothing of lower degree
-- fits. Polynomials are functions that give each power its coefficient.
use Rattle.std.proofs.Common.{◌≡◌, ℕ, suc, ◌+◌, ◌-◌, ◌<◌, ◌≤◌, sym, ap, ◌∙◌, ap₂, ⊎_elim, arith}
use mathlib.Core.Path.{fun_ext}
use Rattle.std.proofs.lemmas.Bool.{cases_lt}
use Rattle.algebra.proofs.rings.Ring.{CommutativeRing, AbstractField, ⊕_𝟘, 𝟘_⊕, ⊗_𝟘, 𝟘_⊗, ⊖_𝟘, ⊕_⊖, ⊗_comm, ⊖_nonzero, ⊗_nonzero, difference_zero, ring_zeros, ring_laws}
use Rattle.algebra.proofs.rings.Sums.{Σ, Σ_one, Σ_𝟘, Σ_cong, Σ_split}
use Rattle.algebra.proofs.rings.Convolutions.{Σ_bound, shift, shift_below, shift_at, shift_above, conv, conv_bound, conv_shift, difference, conv_difference, conv_conv, mirror, mirror_at, mirror_past, mirror_shift, mirror_difference}

module _ {A : Type 0} (R : CommutativeRing A) where
  open R use {𝟘}

  -- both are 0 above X^m
  pub record Bounded (m : ℕ) (f w : ℕ → A) : Type 0 where
    pub f_above : (j : ℕ) → m < j → f j ≡ 𝟘
    pub w_above : (j : ℕ) → m < j → w j ≡ 𝟘

  -- g is h up to X^m, and 0 above
  pub record Cut (m : ℕ) (g h : ℕ → A) : Type 0 where
    pub same : (j : ℕ) → j ≤ m → g j ≡ h j
    pub above : (j : ℕ) → m < j → g j ≡ 𝟘

  uncut : (m : ℕ) (g h : ℕ → A) → Cut m g h → ((j : ℕ) → m < j → h j ≡ 𝟘) → g ≡ h
  uncut m g h c zeros = fun_ext (λ j. ⊎_elim (λ k. c.above j k ∙ sym (zeros j k)) (c.same j) (cases_lt m j))

-- s is the sequence; N is more than all degrees
module _ {A : Type 0} (R : CommutativeRing A) (s : ℕ → A) (N : ℕ) where
  open R use {𝟘, 𝟙, ◌⊕◌, ◌⊗◌, ⊖◌}

  infixl 60 ◌⊕◌
  infixl 70 ◌⊗◌
  infixr 80 ⊖◌
  -- What f makes of the sequence with N zeros before it, less w. Place N + k has f_0 s_k + f_1 s_(k+1) + .., and place
  -- N − 1 − k has coefficient k of f's partner, less w_k. So one condition says that f fits and that w is its partner.
  unfoldable pub residual : (ℕ → A) → (ℕ → A) → ℕ → A
  residual f w n = conv R N f (shift R N s) n ⊕ ⊖ mirror R N w n

  pub residual_past : (f w : ℕ → A) (k : ℕ) → residual f w (N + k) ≡ conv R N f s k
  unfolding residual conv
  residual_past f w k =
      ap₂ ◌⊕◌
      (Σ_cong R N _ _ (λ j _. ap (λ z. f j ⊗ z) (let e : N + k + j ≡ N + (k + j) = omega arith in ap (shift R N s) e ∙ shift_at R N s (k + j))))
      (ap (λ z. ⊖ z) (mirror_past R N w k) ∙ ⊖_𝟘 R)
      ∙ ⊕_𝟘 R _

  pub residual_before :
      (f w : ℕ → A) (m n k : ℕ) → m < N → n + suc k ≡ N → ((j : ℕ) → m < j → f j ≡ 𝟘) →
      residual f w n ≡ Σ R (m - k) (λ t. f (k + 1 + t) ⊗ s t) ⊕ ⊖ w k
  unfolding residual conv
  residual_before f w m n k small place above =
      let whole : N ≡ (k + 1) + (N - (k + 1)) = omega arith in
      ap₂ ◌⊕◌
      (ap (λ M. Σ R M (λ j. f j ⊗ shift R N s (n + j))) whole ∙ Σ_split R (k + 1) (N - (k + 1)) _
      ∙ ap₂ ◌⊕◌
      (Σ_𝟘 R (k + 1) _ (λ j h. ap (λ z. f j ⊗ z) (shift_below R N s (n + j) (omega arith)) ∙ ⊗_𝟘 R (f j)))
      (Σ_cong R (N - (k + 1)) _ _ (λ t _. ap (λ z. f (k + 1 + t) ⊗ z) (let e : n + (k + 1 + t) ≡ N + t = omega arith in ap (shift R N s) e ∙ shift_at R N s t))
      ∙ Σ_bound R (m - k) (N - (k + 1)) _ (omega arith) (λ t h. ap (λ z. z ⊗ s t) (above (k + 1 + t) (omega arith)) ∙ 𝟘_⊗ R (s t)))
      ∙ 𝟘_⊕ R _)
      (ap (λ z. ⊖ z) (mirror_at R N w n k place))

  -- x × a pair − y × X^d × another
  pub residual_difference :
      (x y : A) (d : ℕ) (f w f' w' : ℕ → A) (n : ℕ) → ((j : ℕ) → N ≤ d + j → f' j ≡ 𝟘) →
      residual (difference R x f y (shift R d f')) (difference R x w y (shift R d w')) n ≡ x ⊗ residual f w n ⊕ ⊖ (y ⊗ residual f' w' (n + d))
  unfolding residual
  residual_difference x y d f w f' w' n above =
      ap₂ (λ c e. c ⊕ ⊖ e)
      (conv_difference R N x f y (shift R d f') (shift R N s) n ∙ ap (λ z. x ⊗ conv R N f (shift R N s) n ⊕ ⊖ (y ⊗ z)) (conv_shift R N d f' (shift R N s) n above))
      (mirror_difference R N x w y (shift R d w') n ∙ ap (λ z. x ⊗ mirror R N w n ⊕ ⊖ (y ⊗ z)) (mirror_shift R N d w' n))
      ∙ regrouped x _ _ y _ _
    where
      regrouped : (x a b y c e : A) → (x ⊗ a ⊕ ⊖ (y ⊗ c)) ⊕ ⊖ (x ⊗ b ⊕ ⊖ (y ⊗ e)) ≡ x ⊗ (a ⊕ ⊖ b) ⊕ ⊖ (y ⊗ (c ⊕ ⊖ e))
      regrouped x a b y c e = simp ring_laws

  -- f has degree m and fits the first i terms, and w is its partner
  pub record Fitting (i m : ℕ) (f w : ℕ → A) : Type 0 where
    pub bounded : Bounded R m f w
    pub leads : f m ≡ 𝟘 → ⊥
    pub vanishes : (n : ℕ) → n + m < N + i → residual f w n ≡ 𝟘

  -- The pair that was kept when the degree grew to m: m' is its degree, D its discrepancy. Before the degree has grown,
  -- m is 0, and the pair 0, −1 has these properties too.
  pub record Kept (m m' : ℕ) (f w : ℕ → A) (D : A) : Type 0 where
    pub bounded : Bounded R m' f w
    pub nonzero : D ≡ 𝟘 → ⊥
    pub vanishes : (n : ℕ) → suc n < N + m → residual f w n ≡ 𝟘
    pub remains : (n : ℕ) → suc n ≡ N + m → residual f w n ≡ D

  -- the discrepancy of a pair of degree m at the term i
  abbrev pub Discrepancy : ℕ → ℕ → (ℕ → A) → (ℕ → A) → A → Type 0
  Discrepancy i m f w D = (n : ℕ) → n + m ≡ N + i → residual f w n ≡ D

  zero_difference : (x a y b : A) → a ≡ 𝟘 → b ≡ 𝟘 → x ⊗ a ⊕ ⊖ (y ⊗ b) ≡ 𝟘
  zero_difference x a y b p q = ap₂ (λ a b. x ⊗ a ⊕ ⊖ (y ⊗ b)) p q ∙ simp ring_zeros

  -- x × the pair p, u less y × X^d × the pair q, v: what both steps of the algorithm share
  made :
      (x y : A) (d i m a b : ℕ) (p u q v f w : ℕ → A) → Bounded R a p u → Bounded R b q v → a ≤ m → b + d ≤ m → m < N →
      (x ⊗ p m ⊕ ⊖ (y ⊗ shift R d q m) ≡ 𝟘 → ⊥) →
      ((n : ℕ) → n + m < N + suc i → x ⊗ residual p u n ⊕ ⊖ (y ⊗ residual q v (n + d)) ≡ 𝟘) →
      Cut R m f (difference R x p y (shift R d q)) → Cut R m w (difference R x u y (shift R d v)) → Fitting (suc i) m f w
  made x y d i m a b p u q v f w pu qv h k small lead cancels f-is w-is = record {
    bounded = record { f_above = f-is.above; w_above = w-is.above };
    leads = λ e. lead (sym (f-is.same m (omega arith)) ∙ e);
    vanishes = λ n r.
        ap₂ (λ g t. residual g t n)
        (uncut R m f _ f-is (λ j l. zero_difference x _ y _ (pu.f_above j (omega arith)) (shift_above R d q b qv.f_above j (omega arith))))
        (uncut R m w _ w-is (λ j l. zero_difference x _ y _ (pu.w_above j (omega arith)) (shift_above R d v b qv.w_above j (omega arith))))
        ∙ residual_difference x y d p u q v n (λ j l. qv.f_above j (omega arith))
        ∙ cancels n r;
  }

  -- read back: f fits, in the sense of the sequence alone,
  pub fits : (i m : ℕ) (f w : ℕ → A) → m < N → Fitting i m f w → (k : ℕ) → k + m < i → conv R (suc m) f s k ≡ 𝟘
  fits i m f w small p k h =
      sym (conv_bound R (suc m) N f s k small p.bounded.f_above) ∙ sym (residual_past f w k) ∙ p.vanishes (N + k) (omega arith)

  -- and w is its partner
  pub partners : (i m : ℕ) (f w : ℕ → A) → m < N → m ≤ i → Fitting i m f w → (k : ℕ) → k < N → w k ≡ Σ R (m - k) (λ t. f (k + 1 + t) ⊗ s t)
  partners i m f w small read p k h =
      sym (difference_zero R _ _ (sym (residual_before f w m (N - suc k) k small (omega arith) p.bounded.f_above) ∙ p.vanishes (N - suc k) (omega arith)))

  -- the discrepancy, in the sense of the sequence alone
  pub discrepancy : (i m : ℕ) (f w : ℕ → A) → m < N → m ≤ i → Bounded R m f w → Discrepancy i m f w (conv R (suc m) f s (i - m))
  discrepancy i m f w small read bounded n e =
      let place : n ≡ N + (i - m) = omega arith in
      ap (residual f w) place ∙ residual_past f w (i - m) ∙ conv_bound R (suc m) N f s (i - m) small bounded.f_above

-- nothing here divides: the pairs are made by products alone
module _ {A : Type 0} (K : AbstractField A) (s : ℕ → A) (N : ℕ) where
  open K.ring use {𝟘, 𝟙, ◌⊕◌, ◌⊗◌, ⊖◌}

  infixl 60 ◌⊕◌
  infixl 70 ◌⊗◌
  infixr 80 ⊖◌
  -- D × D' − D' × D
  crossed : (x y a b : A) → a ≡ y → b ≡ x → x ⊗ a ⊕ ⊖ (y ⊗ b) ≡ 𝟘
  crossed x y a b p q = ap₂ (λ a b. x ⊗ a ⊕ ⊖ (y ⊗ b)) p q ∙ ap (λ z. z ⊕ ⊖ (y ⊗ x)) (⊗_comm K.ring x y) ∙ ⊕_⊖ K.ring (y ⊗ x)

  module _ (i m m' d : ℕ) (f w f' w' f⁺ w⁺ : ℕ → A) (D D' : A) (fitting : Fitting K.ring s N i m f w) (kept : Kept K.ring s N m m' f' w' D') (discrepancy : Discrepancy K.ring s N i m f w D) (behind : m + m' ≤ i) where
    -- d ≥ 0: the degree stays
    pub stays :
        m < N → d + suc i ≡ m + m →
        Cut K.ring m f⁺ (difference K.ring D' f D (shift K.ring d f')) → Cut K.ring m w⁺ (difference K.ring D' w D (shift K.ring d w')) →
        Fitting K.ring s N (suc i) m f⁺ w⁺
    stays small e =
        made K.ring s N D' D d i m m m' f w f' w' f⁺ w⁺ fitting.bounded kept.bounded (omega arith) (omega arith) small
        (λ z. ⊗_nonzero K D' (f m) kept.nonzero fitting.leads
        (sym (ap (λ b. D' ⊗ f m ⊕ ⊖ (D ⊗ b)) (shift_above K.ring d f' m' kept.bounded.f_above m (omega arith)) ∙ simp ring_zeros) ∙ z))
        (λ n h. ⊎_elim
        (λ below. zero_difference K.ring s N D' _ D _ (fitting.vanishes n below) (kept.vanishes (n + d) (omega arith)))
        (λ last. crossed D' D _ _ (discrepancy n (omega arith)) (kept.remains (n + d) (omega arith)))
        (cases_lt (n + m) (N + i)))

    -- d < 0, here negated: the degree grows by d
    pub grows :
        m + d < N → d + (m + m) ≡ suc i →
        Cut K.ring (m + d) f⁺ (difference K.ring D f' D' (shift K.ring d f)) → Cut K.ring (m + d) w⁺ (difference K.ring D w' D' (shift K.ring d w)) →
        Fitting K.ring s N (suc i) (m + d) f⁺ w⁺
    grows small e =
        made K.ring s N D D' d i (m + d) m' m f' w' f w f⁺ w⁺ kept.bounded fitting.bounded (omega arith) (omega arith) small
        (λ z. ⊖_nonzero K (D' ⊗ f m) (⊗_nonzero K D' (f m) kept.nonzero fitting.leads)
        (sym (ap₂ (λ a b. D ⊗ a ⊕ ⊖ (D' ⊗ b)) (kept.bounded.f_above (m + d) (omega arith)) (let order : m + d ≡ d + m = omega arith in ap (shift K.ring d f) order ∙ shift_at K.ring d f m) ∙ simp ring_zeros) ∙ z))
        (λ n h. ⊎_elim
        (λ below. zero_difference K.ring s N D _ D' _ (kept.vanishes n below) (fitting.vanishes (n + d) (omega arith)))
        (λ last. crossed D D' _ _ (kept.remains n (omega arith)) (discrepancy (n + d) (omega arith)))
        (cases_lt (suc n) (N + m)))

  -- Nothing of a degree e below m fits: g_e D is the sum of all g_a f'_b s_(k+a+b) for k = m − 1 − e, where for each b
  -- the sum over a is 0, since g fits.
  pub lowest :
      (i m m' e : ℕ) (f' w' g : ℕ → A) (D : A) → Kept K.ring s N m m' f' w' D → m + m' ≤ i → (g e ≡ 𝟘 → ⊥) →
      ((k : ℕ) → k + e < i → conv K.ring (suc e) g s k ≡ 𝟘) → m ≤ e
  lowest i m m' e f' w' g D kept behind leads g-fits = ⊎_elim (λ lower. absurd (⊗_nonzero K (g e) D leads kept.nonzero (both_sums lower))) (λ h. h) (cases_lt e m)
    where
      k : ℕ
      k = m - suc e

      from_kept : e < m → conv K.ring (suc e) g (conv K.ring N f' s) k ≡ g e ⊗ D
      from_kept lower =
          unfold conv in
          Σ_one K.ring (suc e) _ e (omega arith) (λ a h other. ap (λ z. g a ⊗ z) (sym (residual_past K.ring s N f' w' (k + a)) ∙ kept.vanishes (N + (k + a)) (omega arith)) ∙ ⊗_𝟘 K.ring (g a))
          ∙ ap (λ z. g e ⊗ z) (sym (residual_past K.ring s N f' w' (k + e)) ∙ kept.remains (N + (k + e)) (omega arith))

      from_g : e < m → conv K.ring N f' (conv K.ring (suc e) g s) k ≡ 𝟘
      from_g lower =
          unfold conv in
          Σ_𝟘 K.ring N _ (λ b _. ⊎_elim
          (λ h. ap (λ z. z ⊗ conv K.ring (suc e) g s (k + b)) (kept.bounded.f_above b h) ∙ 𝟘_⊗ K.ring _)
          (λ h. ap (λ z. f' b ⊗ z) (g-fits (k + b) (omega arith)) ∙ ⊗_𝟘 K.ring (f' b))
          (cases_lt m' b))

      both_sums : e < m → g e ⊗ D ≡ 𝟘
      both_sums lower = sym (from_kept lower) ∙ conv_conv K.ring (suc e) N g f' s k ∙ from_g lower
