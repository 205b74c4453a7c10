-- Lists of places, and counts over the places below a bound.
use Rattle.std.specs.Prelude.{◌≡◌, ℕ, zero, suc, Bool, true, false, cond, ◌⊎◌, List, [], ◌∷◌, ◌==◌, nat_eq}

-- x stands in the list
abbrev pub Member : {A : Type 0} → A → List A → Type 0
Member x [] = ⊥
Member x (y ∷ ys) = (x ≡ y) ⊎ Member x ys

-- no place stands twice in the list
abbrev pub Distinct : {A : Type 0} → List A → Type 0
Distinct [] = Unit {0}
Distinct (y ∷ ys) = (Member y ys → ⊥) × Distinct ys

-- the same as Member, as a test on numbers
abbrev pub member : ℕ → List ℕ → Bool
member j [] = false
member j (i ∷ E) = cond (i == j) true (member j E)

-- the list without j
abbrev pub without : ℕ → List ℕ → List ℕ
without j [] = []
without j (i ∷ E) = cond (i == j) (without j E) (i ∷ without j E)

-- the number of places below n where the test fails
abbrev pub failures : ℕ → (ℕ → Bool) → ℕ
failures zero test = 0
failures (suc n) test = cond (test n) (failures n test) (suc (failures n test))

-- these places, the last first
abbrev pub failing : ℕ → (ℕ → Bool) → List ℕ
failing zero test = []
failing (suc n) test = cond (test n) (failing n test) (n ∷ failing n test)

-- the number of places below n with a letter other than 0 (the Hamming weight)
abbrev pub weight : ℕ → (ℕ → ℕ) → ℕ
weight n x = failures n (λ i. nat_eq (x i) 0)

-- the number of places below n where v and w differ (the Hamming distance)
abbrev pub distance : ℕ → (ℕ → ℕ) → (ℕ → ℕ) → ℕ
distance n v w = failures n (λ i. nat_eq (v i) (w i))
