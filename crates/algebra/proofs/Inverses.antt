-- The inverse laws, from the ring's laws and an inverse for each element other than 0.
use Rattle.std.proofs.Common.{◌≡◌, ℕ, zero, suc, ◌<◌, Bool, true, false, cond, eqb, ◌⊎◌, Some, None, Option, refl, ap, ◌∙◌, inl, inr, ⊎_elim, arith}
use Rattle.std.proofs.lemmas.Bool.{eqb-true, eq-eqb, ne_eqb, cases_eq, cond-true, cond-false, both_ways}
use Rattle.algebra.specs.Meaning.{Arithmetic, first, or_else, inverse_in, with_inverses}
use Rattle.algebra.specs.Laws.{Total, RingLaws, InverseOf, HasInverses, InverseLaws}
use Rattle.algebra.proofs.RingFacts.{inverse_only, zero_times}

module _ (test : ℕ → Bool) where
  abbrev Found : ℕ → Option ℕ → Type 0
  Found n o = (x : ℕ) × (o ≡ Some x) × (x < n) × (test x ≡ true)

  abbrev Missed : ℕ → Option ℕ → Type 0
  Missed n o = (o ≡ None) × ((x : ℕ) → x < n → test x ≡ false)

  keep : (n : ℕ) (o other : Option ℕ) → Found n o → Found (suc n) (or_else o other)
  keep n o other f = let below = f.2 in (f.0, ap (λ p. or_else p other) f.1, omega arith, f.3)

  at_last : (n : ℕ) → Missed n (first test n) → (t : Bool) → test n ≡ t → Found (suc n) (first test (suc n)) ⊎ Missed (suc n) (first test (suc n))
  at_last n m true e = inl (n, ap (λ p. or_else p (cond (test n) (Some n) None)) m.0 ∙ cond-true _ _ _ e, omega arith, e)
  at_last n m false e = inr (ap (λ p. or_else p (cond (test n) (Some n) None)) m.0 ∙ cond-false _ _ _ e, λ x h. ⊎_elim (λ is. ap test is ∙ e) (λ other. m.1 x (omega arith)) (cases_eq x n))

  first_cases : (n : ℕ) → Found n (first test n) ⊎ Missed n (first test n)
  first_cases zero = inr (refl, λ x h. absurd (omega arith))
  first_cases (suc n) = ⊎_elim (λ f. inl (keep n (first test n) (cond (test n) (Some n) None) f)) (λ m. at_last n m (test n) refl) (first_cases n)

  first_some : (n x : ℕ) → x < n → test x ≡ true → Found n (first test n)
  first_some n x below passes = ⊎_elim (λ f. f) (λ m. absurd (both_ways _ (m.1 x below) passes)) (first_cases n)

  first_none : (n : ℕ) → ((x : ℕ) → x < n → test x ≡ false) → first test n ≡ None
  first_none n fails = ⊎_elim (λ f. absurd (both_ways _ (fails f.0 f.2) f.3)) (λ m. m.0) (first_cases n)

module _ (A : Arithmetic) (total : Total A) (ring : RingLaws A) where
  -- whatever element makes 1 with a is the one that the search finds
  pub inverse_found : (a b : ℕ) → a < A.size → b < A.size → A.times a b ≡ 1 → (inverse_in A a ≡ Some b) × InverseOf A a b
  inverse_found a b ha hb e =
      let f = first_some (λ x. eqb (A.times a x) 1) A.size b hb (eq-eqb _ 1 e) in (
        f.1 ∙ ap Some (inverse_only A total ring a b f.0 ha hb f.2 e (eqb-true _ 1 f.3)),
        record { element = hb; product = e; only = λ c hc ec. inverse_only A total ring a b c ha hb hc e ec },
      )

  nothing : (a : ℕ) → ((b : ℕ) → b < A.size → A.times a b ≡ 0) → inverse_in A a ≡ None
  nothing a zeros = first_none (λ x. eqb (A.times a x) 1) A.size (λ x h. ne_eqb _ 1 (λ one. let z = zeros x h in omega arith))

  pub inverse_laws : HasInverses A → InverseLaws (with_inverses A)
  inverse_laws has = record {
    inverts = λ a nonzero ha. let h = has a nonzero ha in let found = inverse_found a h.0 ha h.1 h.2 in (h.0, found.0, found.1);
    nothing_for_zero = nothing 0 (λ b hb. zero_times A total ring b hb);
    nothing_outside = λ a ha. nothing a (λ b hb. total.times_outside a b (inl ha));
  }
