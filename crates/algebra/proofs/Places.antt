-- Facts about lists of places.
use Rattle.std.proofs.Common.{◌≡◌, ℕ, zero, suc, ◌<◌, true, false, eqb, ◌⊎◌, List, [], ◌∷◌, map, length, sym, refl, ap, ◌∙◌, subst, inl, inr, arith}
use Rattle.std.proofs.lemmas.Bool.{eq-eqb, ne_eqb, both_ways, cases_Bool, cases_eq, cond-true, cond-false}
use Rattle.algebra.specs.Places.{Member, Distinct, member, without}

pub member_here : (i j : ℕ) (E : List ℕ) → i ≡ j → member j (i ∷ E) ≡ true
member_here i j E e = cond-true (eqb i j) true (member j E) (eq-eqb i j e)

pub member_there : (i j : ℕ) (E : List ℕ) → (i ≡ j → ⊥) → member j (i ∷ E) ≡ member j E
member_there i j E h = cond-false (eqb i j) true (member j E) (ne_eqb i j h)

-- the test tells
pub member_if : (j : ℕ) (E : List ℕ) → Member j E → member j E ≡ true
member_if j [] h = absurd h
member_if j (i ∷ E) (inl e) = member_here i j E (sym e)
member_if j (i ∷ E) (inr h) = elim (cases_eq i j) [ inl e ↦ member_here i j E e | inr n ↦ member_there i j E n ∙ member_if j E h ]

pub member_only : (j : ℕ) (E : List ℕ) → member j E ≡ true → Member j E
member_only j [] e = absurd (both_ways false refl e)
member_only j (i ∷ E) e = from (cases_eq i j) (member_only j E)
  where
    from : (i ≡ j) ⊎ (i ≡ j → ⊥) → (member j E ≡ true → Member j E) → (j ≡ i) ⊎ Member j E
    from (inl p) ih = inl (sym p)
    from (inr n) ih = inr (ih (sym (member_there i j E n) ∙ e))

pub member_not : (j : ℕ) (E : List ℕ) → (Member j E → ⊥) → member j E ≡ false
member_not j E h = elim (cases_Bool (member j E)) [ inl e ↦ absurd (h (member_only j E e)) | inr e ↦ e ]

pub member? : (j : ℕ) (E : List ℕ) → (Member j E) ⊎ (Member j E → ⊥)
member? j E = elim (cases_Bool (member j E)) [
  | inl e ↦ inl (member_only j E e)
  | inr e ↦ inr
      (λ h. both_ways (member j E) e (member_if j E h))
]

pub member_moved : {A : Type 0} {x y : A} → x ≡ y → (xs : List A) → Member x xs → Member y xs
member_moved e xs m = subst (λ z. Member z xs) e m

-- membership in the image of a list
pub member_map : {A B : Type 0} (f : A → B) (x : A) (xs : List A) → Member x xs → Member (f x) (map f xs)
member_map f x [] h = absurd h
member_map f x (y ∷ ys) (inl e) = inl (ap f e)
member_map f x (y ∷ ys) (inr h) = inr (member_map f x ys h)

pub member_of_map : {A B : Type 0} (f : A → B) (y : B) (xs : List A) → Member y (map f xs) → (x : A) × (Member x xs) × (y ≡ f x)
member_of_map f y [] h = absurd h
member_of_map f y (x ∷ xs) (inl e) = (x, inl refl, e)
member_of_map f y (x ∷ xs) (inr h) = let r = member_of_map f y xs h in (r.0, inr r.1, r.2)

pub distinct_map : {A B : Type 0} (f : A → B) (xs : List A) → Distinct xs → ((x y : A) → Member x xs → Member y xs → f x ≡ f y → x ≡ y) →
    Distinct (map f xs)
distinct_map f [] d inj = tt
distinct_map f (x ∷ xs) d inj = (
  (λ h. let r = member_of_map f (f x) xs h in d.0 (member_moved (sym (inj x r.0 (inl refl) (inr r.1) r.2)) xs r.1)),
  distinct_map f xs d.1 (λ y z hy hz. inj y z (inr hy) (inr hz)),
)

pub without_here : (i j : ℕ) (E : List ℕ) → i ≡ j → without j (i ∷ E) ≡ without j E
without_here i j E e = cond-true (eqb i j) (without j E) (i ∷ without j E) (eq-eqb i j e)

pub without_there : (i j : ℕ) (E : List ℕ) → (i ≡ j → ⊥) → without j (i ∷ E) ≡ i ∷ without j E
without_there i j E h = cond-false (eqb i j) (without j E) (i ∷ without j E) (ne_eqb i j h)

pub without_absent : (j : ℕ) (E : List ℕ) → (Member j E → ⊥) → without j E ≡ E
without_absent j [] h = refl
without_absent j (i ∷ E) h = without_there i j E (λ e. h (inl (sym e))) ∙ ap (λ l. i ∷ l) (without_absent j E (λ k. h (inr k)))

pub member_without : (i j : ℕ) (E : List ℕ) → Member i (without j E) → Member i E
member_without i j [] m = m
member_without i j (k ∷ E) m = from (cases_eq k j) (member_without i j E)
  where
    from : (k ≡ j) ⊎ (k ≡ j → ⊥) → (Member i (without j E) → Member i E) → Member i (k ∷ E)
    from (inl e) ih = inr (ih (subst (Member i) (without_here k j E e) m))
    from (inr n) ih = elim (subst (Member i) (without_there k j E n) m) [ inl p ↦ inl p | inr q ↦ inr (ih q) ]

-- all places below n
unfoldable pub places : ℕ → List ℕ
places zero = []
places (suc n) = n ∷ places n

pub length_places : (n : ℕ) → length (places n) ≡ n
unfolding places
length_places zero = refl
length_places (suc n) = ap suc (length_places n)

pub places_below : (n j : ℕ) → Member j (places n) → j < n
unfolding places
places_below zero j m = absurd m
places_below (suc n) j (inl e) = omega arith
places_below (suc n) j (inr m) = let h : j < n = places_below n j m in omega arith

pub distinct_places : (n : ℕ) → Distinct (places n)
unfolding places
distinct_places zero = tt
distinct_places (suc n) = ((λ m. let h : n < n = places_below n n m in omega arith), distinct_places n)
