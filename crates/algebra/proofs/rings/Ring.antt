-- Commutative rings and fields over any carrier, with laws that hold for all elements.
use Rattle.std.proofs.Common.{◌≡◌, sym, ap, ◌∙◌}

pub record CommutativeRing (A : Type 0) : Type 0 where
  infixl 60 ◌⊕◌
  infixl 70 ◌⊗◌
  infixr 80 ⊖◌
  pub 𝟘 : A
  pub 𝟙 : A
  pub ◌⊕◌ : A → A → A
  pub ◌⊗◌ : A → A → A
  pub ⊖◌ : A → A
  pub plus_assoc : (a b c : A) → (a ⊕ b) ⊕ c ≡ a ⊕ (b ⊕ c)
  pub plus_comm : (a b : A) → a ⊕ b ≡ b ⊕ a
  pub plus_zero : (a : A) → a ⊕ 𝟘 ≡ a
  pub plus_minus : (a : A) → a ⊕ ⊖ a ≡ 𝟘
  pub times_assoc : (a b c : A) → (a ⊗ b) ⊗ c ≡ a ⊗ (b ⊗ c)
  pub times_comm : (a b : A) → a ⊗ b ≡ b ⊗ a
  pub times_one : (a : A) → a ⊗ 𝟙 ≡ a
  pub times_plus : (a b c : A) → a ⊗ (b ⊕ c) ≡ a ⊗ b ⊕ a ⊗ c

-- A field: equality is decided, 1 is not 0, and `inv` inverts every element other than 0 (its value at 0 is free).
pub record AbstractField (A : Type 0) : Type 0 where
  pub ring : CommutativeRing A
  pub discrete : (a b : A) → Dec (a ≡ b)
  pub one_not_zero : ring.𝟙 ≡ ring.𝟘 → ⊥
  pub inv : A → A
  pub times_inv : (a : A) → (a ≡ ring.𝟘 → ⊥) → ring.◌⊗◌ a (inv a) ≡ ring.𝟙

-- The laws again as lemmas, since a ruleset takes no fields, and their consequences.
module _ {A : Type 0} (R : CommutativeRing A) where
  open R use {𝟘, 𝟙, ◌⊕◌, ◌⊗◌, ⊖◌}

  infixl 60 ◌⊕◌
  infixl 70 ◌⊗◌
  infixr 80 ⊖◌
  pub ⊕_assoc : (a b c : A) → (a ⊕ b) ⊕ c ≡ a ⊕ (b ⊕ c)
  ⊕_assoc = R.plus_assoc

  pub ⊕_comm : (a b : A) → a ⊕ b ≡ b ⊕ a
  ⊕_comm = R.plus_comm

  pub ⊕_left_comm : (a b c : A) → a ⊕ (b ⊕ c) ≡ b ⊕ (a ⊕ c)
  ⊕_left_comm a b c = sym (⊕_assoc a b c) ∙ ap (λ x. x ⊕ c) (⊕_comm a b) ∙ ⊕_assoc b a c

  pub ⊕_𝟘 : (a : A) → a ⊕ 𝟘 ≡ a
  ⊕_𝟘 = R.plus_zero

  pub 𝟘_⊕ : (a : A) → 𝟘 ⊕ a ≡ a
  𝟘_⊕ a = ⊕_comm 𝟘 a ∙ ⊕_𝟘 a

  pub ⊕_⊖ : (a : A) → a ⊕ ⊖ a ≡ 𝟘
  ⊕_⊖ = R.plus_minus

  pub ⊖_⊕ : (a : A) → ⊖ a ⊕ a ≡ 𝟘
  ⊖_⊕ a = ⊕_comm (⊖ a) a ∙ ⊕_⊖ a

  pub ⊕_⊖_⊕ : (a b : A) → a ⊕ (⊖ a ⊕ b) ≡ b
  ⊕_⊖_⊕ a b = sym (⊕_assoc a (⊖ a) b) ∙ simp (⊕_⊖, 𝟘_⊕)

  pub ⊖_⊕_⊕ : (a b : A) → ⊖ a ⊕ (a ⊕ b) ≡ b
  ⊖_⊕_⊕ a b = sym (⊕_assoc (⊖ a) a b) ∙ simp (⊖_⊕, 𝟘_⊕)

  -- v and its negative cancel across two brackets
  pub ⊕_cross : (c u v w : A) → (c ⊕ (v ⊕ u)) ⊕ (⊖ v ⊕ w) ≡ c ⊕ (u ⊕ w)
  ⊕_cross c u v w =
      ap (λ z. z ⊕ (⊖ v ⊕ w)) (⊕_left_comm c v u) ∙ ⊕_assoc v (c ⊕ u) (⊖ v ⊕ w)
      ∙ ap (λ z. v ⊕ z) (⊕_left_comm (c ⊕ u) (⊖ v) w) ∙ ⊕_⊖_⊕ v ((c ⊕ u) ⊕ w) ∙ ⊕_assoc c u w

  -- a summand on the left may be dropped
  pub ⊕_cancel : (a b c : A) → a ⊕ b ≡ a ⊕ c → b ≡ c
  ⊕_cancel a b c e = sym (⊖_⊕_⊕ a b) ∙ ap (λ x. ⊖ a ⊕ x) e ∙ ⊖_⊕_⊕ a c

  -- the negative is what adds up to 0
  pub ⊖_unique : (a b : A) → a ⊕ b ≡ 𝟘 → b ≡ ⊖ a
  ⊖_unique a b e = ⊕_cancel a b (⊖ a) (e ∙ sym (⊕_⊖ a))

  pub ⊖_⊖ : (a : A) → ⊖ (⊖ a) ≡ a
  ⊖_⊖ a = sym (⊖_unique (⊖ a) a (⊖_⊕ a))

  pub ⊖_𝟘 : ⊖ 𝟘 ≡ 𝟘
  ⊖_𝟘 = sym (⊖_unique 𝟘 𝟘 (⊕_𝟘 𝟘))

  pub ⊖_of_⊕ : (a b : A) → ⊖ (a ⊕ b) ≡ ⊖ a ⊕ ⊖ b
  ⊖_of_⊕ a b = sym (⊖_unique (a ⊕ b) (⊖ a ⊕ ⊖ b) (⊕_assoc a b _ ∙ ap (λ x. a ⊕ x) (⊕_left_comm b (⊖ a) (⊖ b)) ∙ simp (⊕_⊖, ⊕_𝟘)))

  pub ⊗_assoc : (a b c : A) → (a ⊗ b) ⊗ c ≡ a ⊗ (b ⊗ c)
  ⊗_assoc = R.times_assoc

  pub ⊗_comm : (a b : A) → a ⊗ b ≡ b ⊗ a
  ⊗_comm = R.times_comm

  pub ⊗_left_comm : (a b c : A) → a ⊗ (b ⊗ c) ≡ b ⊗ (a ⊗ c)
  ⊗_left_comm a b c = sym (⊗_assoc a b c) ∙ ap (λ x. x ⊗ c) (⊗_comm a b) ∙ ⊗_assoc b a c

  pub ⊗_𝟙 : (a : A) → a ⊗ 𝟙 ≡ a
  ⊗_𝟙 = R.times_one

  pub 𝟙_⊗ : (a : A) → 𝟙 ⊗ a ≡ a
  𝟙_⊗ a = ⊗_comm 𝟙 a ∙ ⊗_𝟙 a

  pub ⊗_⊕ : (a b c : A) → a ⊗ (b ⊕ c) ≡ a ⊗ b ⊕ a ⊗ c
  ⊗_⊕ = R.times_plus

  pub ⊕_⊗ : (a b c : A) → (a ⊕ b) ⊗ c ≡ a ⊗ c ⊕ b ⊗ c
  ⊕_⊗ a b c = ⊗_comm (a ⊕ b) c ∙ ⊗_⊕ c a b ∙ simp ⊗_comm

  pub ⊗_𝟘 : (a : A) → a ⊗ 𝟘 ≡ 𝟘
  ⊗_𝟘 a = ⊕_cancel (a ⊗ 𝟘) (a ⊗ 𝟘) 𝟘 (sym (⊗_⊕ a 𝟘 𝟘) ∙ simp ⊕_𝟘)

  pub 𝟘_⊗ : (a : A) → 𝟘 ⊗ a ≡ 𝟘
  𝟘_⊗ a = ⊗_comm 𝟘 a ∙ ⊗_𝟘 a

  pub ⊗_⊖ : (a b : A) → a ⊗ ⊖ b ≡ ⊖ (a ⊗ b)
  ⊗_⊖ a b = ⊖_unique (a ⊗ b) (a ⊗ ⊖ b) (sym (⊗_⊕ a b (⊖ b)) ∙ simp (⊕_⊖, ⊗_𝟘))

  pub ⊖_⊗ : (a b : A) → ⊖ a ⊗ b ≡ ⊖ (a ⊗ b)
  ⊖_⊗ a b = ⊗_comm (⊖ a) b ∙ ⊗_⊖ b a ∙ simp ⊗_comm

  -- equal elements have difference 0, and the other way round
  pub difference_zero : (a b : A) → a ⊕ ⊖ b ≡ 𝟘 → a ≡ b
  difference_zero a b e = ⊕_cancel (⊖ b) a b (⊕_comm (⊖ b) a ∙ e ∙ sym (⊖_⊕ b))

-- commutative monoids, sorted
pub ruleset plus_sort = (⊕_assoc, ⊕_comm, ⊕_left_comm)

pub ruleset times_sort = (⊗_assoc, ⊗_comm, ⊗_left_comm)

-- what needs no sorting: neutral elements, opposite elements side by side, and signs
pub ruleset ring_zeros = (⊕_𝟘, 𝟘_⊕, ⊗_𝟘, 𝟘_⊗, ⊗_𝟙, 𝟙_⊗, ⊖_𝟘, ⊖_⊖, ⊕_⊖, ⊖_⊕, ⊕_⊖_⊕, ⊖_⊕_⊕)

-- a sum of sorted products; it closes most identities
pub ruleset ring_laws = (ring_zeros, ⊗_⊕, ⊕_⊗, ⊖_of_⊕, ⊗_⊖, ⊖_⊗, plus_sort, times_sort)

module _ {A : Type 0} (K : AbstractField A) where
  open K.ring use {𝟘, 𝟙, ◌⊕◌, ◌⊗◌, ⊖◌}

  infixl 60 ◌⊕◌
  infixl 70 ◌⊗◌
  infixr 80 ⊖◌
  pub zero? : (a : A) → Dec (a ≡ 𝟘)
  zero? a = K.discrete a 𝟘

  pub ⊗_inv : (a : A) → (a ≡ 𝟘 → ⊥) → a ⊗ K.inv a ≡ 𝟙
  ⊗_inv = K.times_inv

  pub inv_⊗ : (a : A) → (a ≡ 𝟘 → ⊥) → K.inv a ⊗ a ≡ 𝟙
  inv_⊗ a h = ⊗_comm K.ring (K.inv a) a ∙ ⊗_inv a h

  pub inv_⊗_⊗ : (a b : A) → (a ≡ 𝟘 → ⊥) → K.inv a ⊗ (a ⊗ b) ≡ b
  inv_⊗_⊗ a b h = sym (⊗_assoc K.ring (K.inv a) a b) ∙ simp (inv_⊗ a h, 𝟙_⊗)

  -- a factor other than 0 may be dropped
  pub ⊗_cancel : (a b c : A) → (a ≡ 𝟘 → ⊥) → a ⊗ b ≡ a ⊗ c → b ≡ c
  ⊗_cancel a b c h e = sym (inv_⊗_⊗ a b h) ∙ ap (λ x. K.inv a ⊗ x) e ∙ inv_⊗_⊗ a c h

  -- the solution of a × b = c
  pub ⊗_solve : (a b c : A) → (a ≡ 𝟘 → ⊥) → a ⊗ b ≡ c → b ≡ c ⊗ K.inv a
  ⊗_solve a b c h e = sym (inv_⊗_⊗ a b h) ∙ ap (λ x. K.inv a ⊗ x) e ∙ ⊗_comm K.ring (K.inv a) c

  -- no divisors of 0
  pub zero_factor : (a b : A) → (a ≡ 𝟘 → ⊥) → a ⊗ b ≡ 𝟘 → b ≡ 𝟘
  zero_factor a b h e = ⊗_cancel a b 𝟘 h (e ∙ sym (⊗_𝟘 K.ring a))

  pub ⊗_nonzero : (a b : A) → (a ≡ 𝟘 → ⊥) → (b ≡ 𝟘 → ⊥) → a ⊗ b ≡ 𝟘 → ⊥
  ⊗_nonzero a b h k e = k (zero_factor a b h e)

  pub difference_nonzero : (a b : A) → (a ≡ b → ⊥) → a ⊕ ⊖ b ≡ 𝟘 → ⊥
  difference_nonzero a b h e = h (difference_zero K.ring a b e)

  pub ⊖_nonzero : (a : A) → (a ≡ 𝟘 → ⊥) → ⊖ a ≡ 𝟘 → ⊥
  ⊖_nonzero a h e = h (sym (⊖_⊖ K.ring a) ∙ ap (λ x. ⊖ x) e ∙ ⊖_𝟘 K.ring)

  -- one factor of an inverted product, multiplied out
  pub inv_product : (a b : A) → (a ≡ 𝟘 → ⊥) → (b ≡ 𝟘 → ⊥) → K.inv (a ⊗ b) ⊗ a ≡ K.inv b
  inv_product a b h k =
      ⊗_solve b (K.inv (a ⊗ b) ⊗ a) 𝟙 k (regroup b (K.inv (a ⊗ b)) a ∙ ⊗_inv (a ⊗ b) (⊗_nonzero a b h k)) ∙ 𝟙_⊗ K.ring (K.inv b)
    where
      regroup : (b i a : A) → b ⊗ (i ⊗ a) ≡ (a ⊗ b) ⊗ i
      regroup b i a = simp times_sort
