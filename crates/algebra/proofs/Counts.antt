-- Counts of the places below n where a test fails, and the list of these places.
use Rattle.std.proofs.Common.{◌≡◌, ℕ, zero, suc, ◌+◌, ◌<◌, ◌≤◌, Bool, true, false, cond, not, eqb, ◌⊎◌, List, [], ◌∷◌, length, sym, refl, ap, ◌∙◌, inl, inr, arith}
use Rattle.std.proofs.lemmas.Bool.{cases_eq, both_ways, eqb-false, ne_eqb, not_from_false, not-true, cond-true}
use Rattle.algebra.specs.Places.{Member, Distinct, member, failures, failing}
use Rattle.algebra.proofs.Places.{member_there}

-- where two tests pass, the third does: it fails at most as often as the two together
pub failures_two : (n : ℕ) (s t u : ℕ → Bool) → ((i : ℕ) → i < n → s i ≡ true → t i ≡ true → u i ≡ true) →
    failures n u ≤ failures n s + failures n t
failures_two zero s t u e = omega arith
failures_two (suc n) s t u e = step (s n) (t n) (u n) _ _ _ (e n (omega arith)) (failures_two n s t u (λ i h. e i (omega arith)))
  where
    step : (x y z : Bool) (f g k : ℕ) → (x ≡ true → y ≡ true → z ≡ true) → k ≤ f + g →
        cond z k (suc k) ≤ cond x f (suc f) + cond y g (suc g)
    step true true true f g k e h = h
    step true true false f g k e h = absurd (both_ways false refl (e refl refl))
    step true false true f g k e h = omega arith
    step true false false f g k e h = omega arith
    step false true true f g k e h = omega arith
    step false true false f g k e h = omega arith
    step false false true f g k e h = omega arith
    step false false false f g k e h = omega arith

pub failures_none : (n : ℕ) (t : ℕ → Bool) → ((i : ℕ) → i < n → t i ≡ true) → failures n t ≡ 0
failures_none zero t e = refl
failures_none (suc n) t e = cond-true (t n) _ _ (e n (omega arith)) ∙ failures_none n t (λ i h. e i (omega arith))

-- being another place than i fails at most once
other_fails : (n i : ℕ) → failures n (λ j. not (eqb i j)) ≤ 1
other_fails zero i = omega arith
other_fails (suc n) i = step (cases_eq i n) (not (eqb i n)) (λ d. not_from_false (eqb i n) (ne_eqb i n d))
    (failures n (λ j. not (eqb i j))) (other_fails n i)
    (λ e. failures_none n (λ j. not (eqb i j)) (λ j h. not_from_false (eqb i j) (ne_eqb i j (λ q. omega arith))))
  where
    step : (i ≡ n) ⊎ (i ≡ n → ⊥) → (b : Bool) → ((i ≡ n → ⊥) → b ≡ true) → (f : ℕ) → f ≤ 1 → (i ≡ n → f ≡ 0) → cond b f (suc f) ≤ 1
    step c true passes f h none = h
    step (inl e) false passes f h none = let z : f ≡ 0 = none e in omega arith
    step (inr d) false passes f h none = absurd (both_ways false refl (passes d))

-- at most as many places are in a list as it is long
pub members_few : (n : ℕ) (E : List ℕ) → failures n (λ j. not (member j E)) ≤ length E
members_few n [] = omega (arith, failures_none n (λ j. true) (λ j h. refl))
members_few n (i ∷ E) =
    omega (
      arith,
      other_fails n i,
      members_few n E,
      failures_two n (λ j. not (eqb i j)) (λ j. not (member j E))
          (λ j. not (member j (i ∷ E)))
          (λ j h other out. not_from_false _ (member_there i j E (eqb-false i j (not-true _ other)) ∙ not-true _ out)),
    )

-- the list of the places where a test fails
pub length_failing : (n : ℕ) (t : ℕ → Bool) → length (failing n t) ≡ failures n t
length_failing zero t = refl
length_failing (suc n) t = step (t n) (failing n t) (length_failing n t)
  where
    step : (b : Bool) (l : List ℕ) {f : ℕ} → length l ≡ f → length (cond b l (n ∷ l)) ≡ cond b f (suc f)
    step true l e = e
    step false l e = ap suc e

pub failing_only : (n : ℕ) (t : ℕ → Bool) (j : ℕ) → Member j (failing n t) → (j < n) × (t j ≡ false)
failing_only zero t j m = absurd m
failing_only (suc n) t j m = step (t n) refl (λ k. let (h, e) = failing_only n t j k in (omega arith, e)) m
  where
    step : (b : Bool) → t n ≡ b → (Member j (failing n t) → (j < suc n) × (t j ≡ false)) →
        Member j (cond b (failing n t) (n ∷ failing n t)) → (j < suc n) × (t j ≡ false)
    step true e ih k = ih k
    step false e ih (inl p) = (omega arith, ap t p ∙ e)
    step false e ih (inr k) = ih k

pub failing_if : (n : ℕ) (t : ℕ → Bool) (j : ℕ) → j < n → t j ≡ false → Member j (failing n t)
failing_if zero t j h e = absurd (omega arith)
failing_if (suc n) t j h e = step (t n) refl (cases_eq j n) (λ k. failing_if n t j k e)
  where
    step : (b : Bool) → t n ≡ b → (j ≡ n) ⊎ (j ≡ n → ⊥) → (j < n → Member j (failing n t)) →
        Member j (cond b (failing n t) (n ∷ failing n t))
    step true p (inl q) ih = absurd (both_ways (t n) (sym (ap t q) ∙ e) p)
    step true p (inr q) ih = ih (omega arith)
    step false p (inl q) ih = inl q
    step false p (inr q) ih = inr (ih (omega arith))

pub distinct_failing : (n : ℕ) (t : ℕ → Bool) → Distinct (failing n t)
distinct_failing zero t = tt
distinct_failing (suc n) t = step (t n) (distinct_failing n t)
  where
    step : (b : Bool) → Distinct (failing n t) → Distinct (cond b (failing n t) (n ∷ failing n t))
    step true d = d
    step false d = ((λ m. let (h, e) = failing_only n t n m in omega arith), d)
