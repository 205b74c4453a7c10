-- What the steps of the algorithm for minimal pairs do, about numbers (specs/PairSteps.antt), carried from the field of elements.
use Rattle.std.proofs.Common.{◌≡◌, ◌≢◌, ℕ, zero, suc, ◌+◌, ◌-◌, ◌<◌, ◌≤◌, ltb, List, length, get_or, sym, ap, ◌∙◌, ap₂, ⊎_elim, arith}
use mathlib.Core.Path.{subst⁻¹}
use Rattle.std.proofs.lemmas.Bool.{cases_lt, cond_both, cond-true, cond-false, lt-ltb, le-ltb}
use Rattle.algebra.specs.Meaning.{Arithmetic, Meaning}
use Rattle.algebra.specs.Laws.{Laws}
use Rattle.algebra.specs.Power.{sum}
use Rattle.algebra.specs.Polynomial.{AllElements, negate}
use Rattle.algebra.specs.Realisation.{Minimal, applied, partner}
use Rattle.algebra.specs.PairSteps.{Fitting, Kept, Combined}
use Rattle.algebra.proofs.Lengths.{sum_element}
use Rattle.algebra.proofs.RingFacts.{zero_element, minus_self, negate_negate}
use Rattle.algebra.proofs.rings.Ring.{CommutativeRing, ring_zeros}
use Rattle.algebra.proofs.elements.Carrier.{Element, element_path, Lawful, lawful, ring, lift, value_lift, minus_is, field}
use Rattle.algebra.proofs.elements.Elements.{is_zero, zero_value, lift_zero}
use Rattle.algebra.proofs.rings.Convolutions.{conv, conv_bound, shift, shift_below, shift_from, difference}
use Rattle.algebra.proofs.rings.MinimalPairs as abstract
use Rattle.algebra.proofs.elements.Realisations.{lifted, value_lifted, lifted_zero, zero_lifted, scaled_is, applied_is, partner_is}

module _ {meaning : Meaning} (laws : Laws meaning) where
  abbrev A : Arithmetic
  A = meaning.arithmetic

  abbrev W : Lawful A
  W = lawful laws

  abbrev R : CommutativeRing (Element A)
  R = ring W

  open R use {𝟘, ◌⊕◌, ◌⊗◌, ⊖◌}

  infixl 60 ◌⊕◌
  infixl 70 ◌⊗◌
  infixr 80 ⊖◌
  -- past the degree a polynomial has no partner
  no_partner : (s f : List ℕ) (m k : ℕ) → m ≤ k → partner A s f m k ≡ 0
  no_partner s f m k past = let none : m - k ≡ 0 = omega arith in ap (λ n. sum A n (λ t. A.times (get_or f (k + 1 + t) 0) (get_or s t 0))) none

  -- combinations
  module _ (a : ℕ) (p : List ℕ) (b d : ℕ) (q : List ℕ) (m : ℕ) (g : List ℕ) (made : Combined A a p b d q m g) where
    combined_in : AllElements A g
    combined_in j =
        ⊎_elim (λ above. subst⁻¹ (λ (x : ℕ). x < A.size) (made.above j above) (zero_element A laws.total laws.ring))
        (λ below. subst⁻¹ (λ (x : ℕ). x < A.size) (made.same j below)
        (cond_both (ltb j d) _ _ (λ x. x < A.size) (λ _. laws.total.times_element _ _) (λ _. laws.total.minus_element _ _)))
        (cases_lt m j)

    abbrev combination : ℕ → Element A
    combination = difference R (lift W a) (lifted W p) (lift W b) (shift R d (lifted W q))

    less_nothing : (x y : Element A) → x ≡ x ⊕ ⊖ (y ⊗ 𝟘)
    less_nothing x y = sym (simp ring_zeros)

    module _ (ha : a < A.size) (hb : b < A.size) (hp : AllElements A p) (hq : AllElements A q) where
      low : (j : ℕ) → j ≤ m → j < d → get_or g j 0 ≡ (combination j).0
      low j within h =
          made.same j within ∙ cond-true _ _ _ (lt-ltb j d h) ∙ scaled_is W a p ha hp j
          ∙ ap (λ z. z.0) (less_nothing (lift W a ⊗ lifted W p j) (lift W b))
          ∙ ap (λ z. (lift W a ⊗ lifted W p j ⊕ ⊖ (lift W b ⊗ z)).0) (sym (shift_below R d (lifted W q) j h))

      high : (j : ℕ) → j ≤ m → d ≤ j → get_or g j 0 ≡ (combination j).0
      high j within h =
          made.same j within ∙ cond-false _ _ _ (le-ltb j d h) ∙ ap₂ A.minus (scaled_is W a p ha hp j) (scaled_is W b q hb hq (j - d))
          ∙ minus_is W _ _
          ∙ ap (λ z. (lift W a ⊗ lifted W p j ⊕ ⊖ (lift W b ⊗ z)).0) (sym (shift_from R d (lifted W q) j h))

      combined_is : abstract.Cut R m (lifted W g) combination
      combined_is = record {
        same = λ j h. element_path A (value_lifted W g combined_in j ∙ ⊎_elim (low j h) (high j h) (cases_lt j d));
        above = λ j h. lifted_zero W g combined_in j (made.above j h);
      }

  module _ (s : List ℕ) (s-in : AllElements A s) where
    -- what f makes of the sequence, and what w lacks to its partner
    module _ (N m : ℕ) (f w : List ℕ) (f-in : AllElements A f) (w-in : AllElements A w) (small : m < N) (above : (j : ℕ) → m < j → get_or f j 0 ≡ 0) where
      abbrev residual : ℕ → Element A
      residual = abstract.residual R (lifted W s) N (lifted W f) (lifted W w)

      residual_past : (k : ℕ) → (residual (N + k)).0 ≡ applied A f m s k
      residual_past k =
          ap (λ z. z.0)
          (abstract.residual_past R (lifted W s) N (lifted W f) (lifted W w) k
          ∙ conv_bound R (suc m) N (lifted W f) (lifted W s) k small (λ j h. lifted_zero W f f-in j (above j h)))
          ∙ sym (applied_is W f s f-in s-in m k)

      residual_before : (n k : ℕ) → n + suc k ≡ N → (residual n).0 ≡ A.minus (partner A s f m k) (get_or w k 0)
      residual_before n k place =
          ap (λ z. z.0) (abstract.residual_before R (lifted W s) N (lifted W f) (lifted W w) m n k small place (λ j h. lifted_zero W f f-in j (above j h)))
          ∙ sym (ap₂ A.minus (partner_is W f s f-in s-in m k) (sym (value_lifted W w w-in k)) ∙ minus_is W _ _)

      -- by the place: from N on stands what f makes of the sequence, before it what w lacks
      residual_by : (x : ℕ) (n : ℕ) → (n < N → A.minus (partner A s f m (N - suc n)) (get_or w (N - suc n) 0) ≡ x) → (N ≤ n → applied A f m s (n - N) ≡ x) → (residual n).0 ≡ x
      residual_by x n before past =
          ⊎_elim (λ h. residual_before n (N - suc n) (omega arith) ∙ before h)
          (λ h. let place : n ≡ N + (n - N) = omega arith in ap (λ i. (residual i).0) place ∙ residual_past (n - N) ∙ past h)
          (cases_lt n N)

    partner_element : (f : List ℕ) (m k : ℕ) → partner A s f m k < A.size
    partner_element f m k = sum_element laws.total (m - k) _

    -- nothing lacks where w is the partner
    whole : (f w : List ℕ) (m k : ℕ) → get_or w k 0 ≡ partner A s f m k → A.minus (partner A s f m k) (get_or w k 0) ≡ 0
    whole f w m k e = ap (A.minus (partner A s f m k)) e ∙ minus_self A laws.total laws.ring _ (partner_element f m k)

    module _ (i m : ℕ) (f w : List ℕ) (p : Fitting A s i m f w) where
      fitting_w_in : AllElements A w
      fitting_w_in k = subst⁻¹ (λ (x : ℕ). x < A.size) (p.partners k) (partner_element f m k)

      fitting_w_above : (k : ℕ) → m < k → get_or w k 0 ≡ 0
      fitting_w_above k past = p.partners k ∙ no_partner s f m k (omega arith)

      fitting_up : (N : ℕ) → m < N → m ≤ i → abstract.Fitting R (lifted W s) N i m (lifted W f) (lifted W w)
      fitting_up N small read = record {
        bounded = record {
          f_above = λ j h. lifted_zero W f p.degree.elements j (p.degree.above j h);
          w_above = λ j h. lifted_zero W w fitting_w_in j (fitting_w_above j h);
        };
        leads = λ e. p.degree.leads (zero_lifted W f p.degree.elements m e);
        vanishes = λ n h. is_zero W
            (residual_by N m f w p.degree.elements fitting_w_in small p.degree.above 0 n (λ _. whole f w m _ (p.partners _)) (λ past. p.fits (n - N) (omega arith)));
      }

    fitting_down :
        (N i m : ℕ) (f w : List ℕ) → m < N → m ≤ i → AllElements A f → AllElements A w → abstract.Fitting R (lifted W s) N i m (lifted W f) (lifted W w) →
        Fitting A s i m f w
    fitting_down N i m f w small read hf hw p = record {
      degree = record {
        elements = hf;
        leads = λ e. p.leads (lifted_zero W f hf m e);
        above = λ j h. zero_lifted W f hf j (p.bounded.f_above j h);
      };
      fits = λ k h. applied_is W f s hf s-in m k ∙ zero_value W (abstract.fits R (lifted W s) N i m (lifted W f) (lifted W w) small p k h);
      partners = λ k. ⊎_elim
          (λ inside. sym (value_lifted W w hw k) ∙ ap (λ x. x.0) (abstract.partners R (lifted W s) N i m (lifted W f) (lifted W w) small read p k inside)
          ∙ sym (partner_is W f s hf s-in m k))
          (λ past. zero_lifted W w hw k (p.bounded.w_above k (omega arith)) ∙ sym (no_partner s f m k (omega arith)))
          (cases_lt k N);
    }

    kept_up :
        (N m m' : ℕ) (f w : List ℕ) (D : ℕ) → m' < N → Kept A s m m' f w D → abstract.Kept R (lifted W s) N m m' (lifted W f) (lifted W w) (lift W D)
    kept_up N m m' f w D small p = record {
      bounded = record {
        f_above = λ j h. lifted_zero W f p.f_elements j (p.f_above j h);
        w_above = λ j h. lifted_zero W w p.w_elements j (p.w_above j h);
      };
      nonzero = λ e. p.nonzero (lift_zero W D p.element e);
      vanishes = λ n h. is_zero W
          (residual_by N m' f w p.f_elements p.w_elements small p.f_above 0 n (λ before. whole f w m' _ (p.partners _ (omega arith))) (λ past. p.fits (n - N) (omega arith)));
      remains = λ n h. element_path A
          (residual_by N m' f w p.f_elements p.w_elements small p.f_above D n
          (λ before. let first : N - suc n ≡ 0 = omega arith in ap (λ k. A.minus (partner A s f m' k) (get_or w k 0)) first ∙ p.starts (omega arith))
          (λ past. p.remains (n - N) (omega arith))
          ∙ sym (value_lift W D p.element));
    }

    discrepancy_up :
        (N i m : ℕ) (f w : List ℕ) (D : ℕ) → m < N → m ≤ i → Fitting A s i m f w → D ≡ applied A f m s (i - m) →
        abstract.Discrepancy R (lifted W s) N i m (lifted W f) (lifted W w) (lift W D)
    discrepancy_up N i m f w D small read p is n h =
        let value : D ≡ (conv R (suc m) (lifted W f) (lifted W s) (i - m)).0 = is ∙ applied_is W f s p.degree.elements s-in m (i - m) in
        abstract.discrepancy R (lifted W s) N i m (lifted W f) (lifted W w) small read (fitting_up i m f w p N small read).bounded n h
        ∙ sym (element_path A (value_lift W D (subst⁻¹ (λ (x : ℕ). x < A.size) is (sum_element laws.total (suc m) _)) ∙ value))

    -- before the first number: the pair 1, 0
    pub starts_fitting : (f w : List ℕ) → get_or f 0 0 ≡ 1 → ((j : ℕ) → 0 < j → get_or f j 0 ≡ 0) → ((j : ℕ) → get_or w j 0 ≡ 0) → Fitting A s 0 0 f w
    starts_fitting f w one above none = record {
      degree = record { elements = elements; leads = λ e. let wrong : ◌≡◌ {A = ℕ} 1 0 = sym one ∙ e in omega arith; above = above };
      fits = λ k h. absurd (omega arith);
      partners = λ k. none k ∙ sym (no_partner s f 0 k (omega arith));
    }
      where
        elements : AllElements A f
        elements zero = subst⁻¹ (λ (x : ℕ). x < A.size) one laws.total.smallest
        elements (suc j) = subst⁻¹ (λ (x : ℕ). x < A.size) (above (suc j) (omega arith)) (zero_element A laws.total laws.ring)

    -- and the kept pair 0, −1 with the discrepancy 1
    pub starts_kept : (f w : List ℕ) → ((j : ℕ) → get_or f j 0 ≡ 0) → get_or w 0 0 ≡ negate A 1 → ((j : ℕ) → 0 < j → get_or w j 0 ≡ 0) → Kept A s 0 0 f w 1
    starts_kept f w none minus_one above = record {
      f_elements = λ j. subst⁻¹ (λ (x : ℕ). x < A.size) (none j) (zero_element A laws.total laws.ring);
      w_elements = elements;
      f_above = λ j _. none j;
      w_above = above;
      element = laws.total.smallest;
      nonzero = λ e. omega arith;
      fits = λ k h. absurd (omega arith);
      remains = λ k h. absurd (omega arith);
      partners = λ k h. above k (omega arith) ∙ sym (no_partner s f 0 k (omega arith));
      starts = λ _. ap₂ A.minus (no_partner s f 0 0 (omega arith)) minus_one ∙ negate_negate A laws.total laws.ring 1 laws.total.smallest;
    }
      where
        elements : AllElements A w
        elements zero = subst⁻¹ (λ (x : ℕ). x < A.size) minus_one (laws.total.minus_element 0 1)
        elements (suc j) = subst⁻¹ (λ (x : ℕ). x < A.size) (above (suc j) (omega arith)) (zero_element A laws.total laws.ring)

    -- D is the pair's discrepancy at the number i
    module _ (i m : ℕ) (f w : List ℕ) (D : ℕ) (fitting : Fitting A s i m f w) (read : m ≤ i) (discrepancy : D ≡ applied A f m s (i - m)) where
      -- where it is 0, the pair fits one number more
      pub passes : D ≡ 0 → Fitting A s (suc i) m f w
      passes e = record {
        degree = fitting.degree;
        fits = λ k h. ⊎_elim (fitting.fits k) (λ last. let here : k ≡ i - m = omega arith in ap (applied A f m s) here ∙ sym discrepancy ∙ e) (cases_lt (k + m) i);
        partners = fitting.partners;
      }

      discrepancy_element : D < A.size
      discrepancy_element = subst⁻¹ (λ (x : ℕ). x < A.size) discrepancy (sum_element laws.total (suc m) _)

      -- where the degree grows, by d, the pair is kept
      pub keeps : (d : ℕ) → D ≢ 0 → d + (m + m) ≡ suc i → Kept A s (m + d) m f w D
      keeps d nonzero e = record {
        f_elements = fitting.degree.elements;
        w_elements = fitting_w_in i m f w fitting;
        f_above = fitting.degree.above;
        w_above = fitting_w_above i m f w fitting;
        element = discrepancy_element;
        nonzero = nonzero;
        fits = λ k h. fitting.fits k (omega arith);
        remains = λ k h. let here : k ≡ i - m = omega arith in ap (applied A f m s) here ∙ sym discrepancy;
        partners = λ k _. fitting.partners k;
        starts = λ none. absurd (omega arith);
      }

      module _ (m' d : ℕ) (f' w' : List ℕ) (D' : ℕ) (g v : List ℕ) (kept : Kept A s m m' f' w' D') (behind : m + m' ≤ i) where
        -- where d is not negative, the degree stays
        pub stays : d + suc i ≡ m + m → Combined A D' f D d f' m g → Combined A D' w D d w' m v → Fitting A s (suc i) m g v
        stays e g-made v-made =
            fitting_down (suc m) (suc i) m g v (omega arith) (omega arith) (combined_in _ _ _ _ _ _ _ g-made) (combined_in _ _ _ _ _ _ _ v-made)
            (abstract.stays (field laws) (lifted W s) (suc m) i m m' d _ _ _ _ _ _ (lift W D) (lift W D')
            (fitting_up i m f w fitting (suc m) (omega arith) read) (kept_up (suc m) m m' f' w' D' (omega arith) kept)
            (discrepancy_up (suc m) i m f w D (omega arith) read fitting discrepancy) behind (omega arith) e
            (combined_is _ _ _ _ _ _ _ g-made kept.element discrepancy_element fitting.degree.elements kept.f_elements)
            (combined_is _ _ _ _ _ _ _ v-made kept.element discrepancy_element (fitting_w_in i m f w fitting) kept.w_elements))

        -- where it is negative, the degree grows by d, here without its sign
        pub grows : d + (m + m) ≡ suc i → Combined A D f' D' d f (m + d) g → Combined A D w' D' d w (m + d) v → Fitting A s (suc i) (m + d) g v
        grows e g-made v-made =
            let N : ℕ = suc (m + d) in
            fitting_down N (suc i) (m + d) g v (omega arith) (omega arith) (combined_in _ _ _ _ _ _ _ g-made) (combined_in _ _ _ _ _ _ _ v-made)
            (abstract.grows (field laws) (lifted W s) N i m m' d _ _ _ _ _ _ (lift W D) (lift W D')
            (fitting_up i m f w fitting N (omega arith) read) (kept_up N m m' f' w' D' (omega arith) kept)
            (discrepancy_up N i m f w D (omega arith) read fitting discrepancy) behind (omega arith) e
            (combined_is _ _ _ _ _ _ _ g-made discrepancy_element kept.element kept.f_elements fitting.degree.elements)
            (combined_is _ _ _ _ _ _ _ v-made discrepancy_element kept.element kept.w_elements (fitting_w_in i m f w fitting)))

    -- a pair that fits the whole sequence, with a kept pair behind it, is minimal
    pub minimal : (m m' : ℕ) (f w f' w' : List ℕ) (D : ℕ) → Fitting A s (length s) m f w → Kept A s m m' f' w' D → m + m' ≤ length s → Minimal A s m f w
    minimal m m' f w f' w' D fitting kept behind = record {
      degree = fitting.degree;
      fits = fitting.fits;
      partners = fitting.partners;
      lowest = λ g e has g-fits.
          abstract.lowest (field laws) (lifted W s) (suc m') (length s) m m' e (lifted W f') (lifted W w') (lifted W g) (lift W D)
          (kept_up (suc m') m m' f' w' D (omega arith) kept) behind (λ z. has.leads (zero_lifted W g has.elements e z))
          (λ k h. is_zero W (sym (applied_is W g s has.elements s-in e k) ∙ g-fits k h));
    }
