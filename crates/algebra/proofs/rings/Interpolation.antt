-- Lagrange interpolation at the points a_j of a list E of places below n, and the weights whose power sums at those
-- points have given values. A sum over E is a sum over all places with 0 at those outside E.
use Rattle.std.proofs.Common.{◌≡◌, ℕ, ◌<◌, ◌≤◌, Bool, true, false, cond, List, map, length, sym, ap, ◌∙◌, ap₂, inl, inr, zero-add, arith}
use native.Mathlib.Decide.{ℕ_discrete}
use lib.ListN.{length-map}
use Rattle.std.proofs.lemmas.Bool.{cond-true, cond-false}
use Rattle.algebra.specs.Places.{Member, Distinct, member}
use Rattle.algebra.proofs.Places.{member_if, member_not, member?, member_map, member_of_map, distinct_map}
use Rattle.algebra.proofs.rings.Ring.{CommutativeRing, AbstractField, 𝟘_⊗, ⊗_𝟘, ⊗_𝟙, ⊗_assoc, ⊕_⊗, ⊖_⊗, ⊕_⊖, inv_⊗, difference_zero, times_sort}
use Rattle.algebra.proofs.rings.Sums.{Σ, Σ_cong, Σ_⊗, Σ_⊗_right, Σ_⊕, Σ_⊖, Σ_one, Σ_swap, Σ_delta, keep}
use Rattle.algebra.proofs.rings.Polynomials
use Rattle.algebra.proofs.rings.Points.{root_count, quo_root, annihilator_simple}

module _ {A : Type 0} (R : CommutativeRing A) where
  open R use {𝟘, ◌⊕◌, ◌⊗◌}

  infixl 60 ◌⊕◌
  infixl 70 ◌⊗◌
  -- x at the places of E, 0 elsewhere
  abbrev pub inside : List ℕ → (ℕ → A) → ℕ → A
  inside E x j = cond (member j E) (x j) 𝟘

  pub inside_in : (E : List ℕ) (x : ℕ → A) (j : ℕ) → Member j E → inside E x j ≡ x j
  inside_in E x j m = cond-true (member j E) (x j) 𝟘 (member_if j E m)

  pub inside_out : (E : List ℕ) (x : ℕ → A) (j : ℕ) → (Member j E → ⊥) → inside E x j ≡ 𝟘
  inside_out E x j m = cond-false (member j E) (x j) 𝟘 (member_not j E m)

  -- the product of the X − a_i over the places i of E other than j: what the annihilator of E leaves on division by X − a_j
  abbrev pub cofactor : (ℕ → A) → List ℕ → ℕ → List A
  cofactor a E j = Polynomials.quo R (a j) (Polynomials.annihilator R (map a E))

-- distinct points at distinct places below n
pub record Points {A : Type 0} (n : ℕ) (a : ℕ → A) (E : List ℕ) : Type 0 where
  pub below : (j : ℕ) → Member j E → j < n
  pub distinct : Distinct E
  pub injective : (i j : ℕ) → Member i E → Member j E → a i ≡ a j → i ≡ j

module _ {A : Type 0} (K : AbstractField A) (n : ℕ) (a : ℕ → A) (E : List ℕ) (points : Points n a E) where
  open K.ring use {𝟘, 𝟙, ◌⊕◌, ◌⊗◌, ⊖◌}

  infixl 60 ◌⊕◌
  infixl 70 ◌⊗◌
  infixr 80 ⊖◌
  abbrev R : CommutativeRing A
  R = K.ring

  abbrev pow : A → ℕ → A
  pow = Polynomials.pow R

  abbrev eval : List A → A → A
  eval = Polynomials.eval R

  abbrev coeff : List A → ℕ → A
  coeff = Polynomials.coeff R

  abbrev P : ℕ → List A
  P = cofactor R a E

  pub length_cofactor : (j : ℕ) → length (P j) ≡ length E
  length_cofactor j = Polynomials.length_quo R (a j) _ ∙ simp Polynomials.length_annihilator (length-map E a)

  pub cofactor_other : (i j : ℕ) → Member i E → Member j E → (i ≡ j → ⊥) → eval (P j) (a i) ≡ 𝟘
  cofactor_other i j mi mj off =
      quo_root K (a j) (Polynomials.annihilator R (map a E)) (a i) (λ e. off (points.injective i j mi mj e))
      (Polynomials.annihilator_root R (a j) (map a E) (member_map a j E mj))
      (Polynomials.annihilator_root R (a i) (map a E) (member_map a i E mi))

  pub cofactor_own : (j : ℕ) → Member j E → eval (P j) (a j) ≡ 𝟘 → ⊥
  cofactor_own j m = annihilator_simple K (map a E) (a j) (distinct_map a E points.distinct points.injective) (member_map a j E m)

  -- a sum over E with one term other than 0
  pub inside_one : (c f : ℕ → A) (i : ℕ) → Member i E → ((j : ℕ) → Member j E → (j ≡ i → ⊥) → f j ≡ 𝟘) →
      Σ R n (λ j. inside R E c j ⊗ f j) ≡ c i ⊗ f i
  inside_one c f i m others =
      Σ_one R n _ i (points.below i m)
      (λ j _ off. elim (member? j E) [
        | inl mj ↦ ap (λ z. inside R E c j ⊗ z) (others j mj off) ∙ ⊗_𝟘 R _
        | inr out ↦ ap (λ z. z ⊗ f j) (inside_out R E c j out) ∙ 𝟘_⊗ R _
      ])
      ∙ ap (λ z. z ⊗ f i) (inside_in R E c i m)

  -- the coefficients of Σ c_j P_j, with P_j the cofactors
  abbrev pub combination : (ℕ → A) → ℕ → A
  combination c k = Σ R n (λ j. inside R E c j ⊗ coeff (P j) k)

  pub combination_sum : (c y : ℕ → A) (t : ℕ) → Σ R t (λ k. combination c k ⊗ y k) ≡ Σ R n
      (λ j. inside R E c j ⊗ Σ R t (λ k. coeff (P j) k ⊗ y k))
  combination_sum c y t =
      Σ_cong R t _ _ (λ k _. sym (Σ_⊗_right R n (y k) _))
      ∙ Σ_swap R t n _
      ∙ Σ_cong R n _ _ (λ j _. Σ_cong R t _ _ (λ k _. ⊗_assoc R _ _ _) ∙ Σ_⊗ R t (inside R E c j) _)

  pub combination_eval : (c : ℕ → A) (x : A) → Σ R (length E) (λ k. combination c k ⊗ pow x k) ≡ Σ R n (λ j. inside R E c j ⊗ eval (P j) x)
  combination_eval c x =
      combination_sum c (pow x) (length E)
      ∙ Σ_cong R n _ _ (λ j _. ap (λ z. inside R E c j ⊗ z)
      (sym (Polynomials.eval_powers R (length E) (P j) x (omega (arith, length_cofactor j)))))

  -- the coefficients of the polynomial of degree below |E| that has the value v_j at a_j
  unfoldable pub lagrange : (ℕ → A) → ℕ → A
  lagrange v = combination (λ j. v j ⊗ K.inv (eval (P j) (a j)))

  -- a polynomial with at most as many coefficients as there are points is made of its values
  pub interpolation : (p : List A) → length p ≤ length E → (k : ℕ) → k < length E → coeff p k ≡ lagrange (λ j. eval p (a j)) k
  unfolding lagrange
  interpolation p short k h =
      difference_zero R _ _ (sym (Polynomials.coeff_coeffs R (length E) d k h) ∙ root_count K (map a E) (Polynomials.coeffs R (length E) d)
      (distinct_map a E points.distinct points.injective) (simp (Polynomials.length_coeffs, length-map E a) (omega arith)) root k)
    where
      c : ℕ → A
      c j = eval p (a j) ⊗ K.inv (eval (P j) (a j))

      d : ℕ → A
      d k = coeff p k ⊕ ⊖ combination c k

      at_place : (i : ℕ) → Member i E → eval (Polynomials.coeffs R (length E) d) (a i) ≡ 𝟘
      at_place i m =
          Polynomials.eval_powers R (length E) _ (a i) (omega (arith, Polynomials.length_coeffs R (length E) d))
          ∙ Σ_cong R (length E) _ _ (λ k h. ap (λ z. z ⊗ pow (a i) k) (Polynomials.coeff_coeffs R (length E) d k h) ∙ simp (⊕_⊗, ⊖_⊗))
          ∙ Σ_⊕ R (length E) _ _
          ∙ ap₂ ◌⊕◌ (sym (Polynomials.eval_powers R (length E) p (a i) short))
          (Σ_⊖ R (length E) _ ∙ ap (λ z. ⊖ z) (combination_eval c (a i)
          ∙ inside_one c (λ j. eval (P j) (a i)) i m (λ j mj off. cofactor_other i j m mj (λ e. off (sym e))) ∙ ⊗_assoc R _ _ _
          ∙ ap (λ z. eval p (a i) ⊗ z) (inv_⊗ K _ (cofactor_own i m)) ∙ ⊗_𝟙 R _))
          ∙ ⊕_⊖ R _

      root : (b : A) → Member b (map a E) → eval (Polynomials.coeffs R (length E) d) b ≡ 𝟘
      root b m = let r = member_of_map a b E m in rw r.2 (at_place r.0 r.1)

  -- the weights at E whose power sums are y_0, y_1, ..
  unfoldable pub weights : (ℕ → A) → ℕ → A
  weights y j = Polynomials.act R (P j) y 0 ⊗ K.inv (eval (P j) (a j))

  pub surjectivity : (y : ℕ → A) (k : ℕ) → k < length E → Σ R n (λ j. inside R E (weights y) j ⊗ pow (a j) k) ≡ y k
  unfolding weights lagrange
  surjectivity y k h =
      Σ_cong R n _ _ (λ j _. exchange (member j E) (Polynomials.act R (P j) y 0) (K.inv (eval (P j) (a j))) (pow (a j) k) _ (sum_form j)
      (monomial_eval (a j)))
      ∙ sym (combination_sum c y (length E))
      ∙ Σ_cong R (length E) _ _ (λ l hl. ap (λ z. z ⊗ y l)
      (sym (interpolation monomial (omega (arith, Polynomials.length_coeffs R (length E) delta)) l hl)
      ∙ Polynomials.coeff_coeffs R (length E) delta l hl))
      ∙ Σ_delta R (length E) k y h
    where
      delta : ℕ → A
      delta l = keep R (ℕ_discrete l k) 𝟙

      -- X^k
      monomial : List A
      monomial = Polynomials.coeffs R (length E) delta

      monomial_eval : (x : A) → eval monomial x ≡ pow x k
      monomial_eval x =
          Polynomials.eval_powers R (length E) monomial x (omega (arith, Polynomials.length_coeffs R (length E) delta))
          ∙ Σ_cong R (length E) _ _ (λ l hl. ap (λ z. z ⊗ pow x l) (Polynomials.coeff_coeffs R (length E) delta l hl))
          ∙ Σ_delta R (length E) k (pow x) h

      c : ℕ → A
      c j = eval monomial (a j) ⊗ K.inv (eval (P j) (a j))

      sum_form : (j : ℕ) → Polynomials.act R (P j) y 0 ≡ Σ R (length E) (λ l. coeff (P j) l ⊗ y l)
      sum_form j = Polynomials.act_sum R (length E) (P j) y 0 (omega (arith, length_cofactor j)) ∙ simp zero-add

      exchange : (b : Bool) (s i p q : A) {u : A} → s ≡ u → q ≡ p → cond b (s ⊗ i) 𝟘 ⊗ p ≡ cond b (q ⊗ i) 𝟘 ⊗ u
      exchange true s i p q e f = rw (e, f) (simp times_sort)
      exchange false s i p q e f = simp 𝟘_⊗
