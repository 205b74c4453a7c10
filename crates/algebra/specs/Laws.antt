-- The laws of a field, in named parts.
use Rattle.std.specs.Prelude.{◌≡◌, ℕ, ◌<◌, ◌≤◌, ◌⊎◌, Some, None, ◌≢◌}
use Rattle.algebra.specs.Limits.{largest_size}
use Rattle.algebra.specs.Meaning.{Arithmetic, Meaning}

-- The elements are the numbers below the size; 0 and 1 are among them. Every
-- answer is an element, and it is 0 where an argument is no element.
pub record Total (A : Arithmetic) : Type 0 where
  pub smallest : 2 ≤ A.size
  pub plus_element : (a b : ℕ) → A.plus a b < A.size
  pub minus_element : (a b : ℕ) → A.minus a b < A.size
  pub times_element : (a b : ℕ) → A.times a b < A.size
  pub plus_outside : (a b : ℕ) → (A.size ≤ a) ⊎ (A.size ≤ b) → A.plus a b ≡ 0
  pub minus_outside : (a b : ℕ) → (A.size ≤ a) ⊎ (A.size ≤ b) → A.minus a b ≡ 0
  pub times_outside : (a b : ℕ) → (A.size ≤ a) ⊎ (A.size ≤ b) → A.times a b ≡ 0

-- The laws of a commutative ring, for elements: + and × are associative and commutative, 0 is
-- neutral for + and 1 for ×, × distributes over +, and a − b is the element that added to b gives
-- a.
pub record RingLaws (A : Arithmetic) : Type 0 where
  pub plus_assoc : (a b c : ℕ) → a < A.size → b < A.size → c < A.size
      → A.plus (A.plus a b) c ≡ A.plus a (A.plus b c)
  pub plus_comm : (a b : ℕ) → a < A.size → b < A.size → A.plus a b ≡ A.plus b a
  pub plus_zero : (a : ℕ) → a < A.size → A.plus a 0 ≡ a
  pub times_assoc : (a b c : ℕ) → a < A.size → b < A.size → c < A.size
      → A.times (A.times a b) c ≡ A.times a (A.times b c)
  pub times_comm : (a b : ℕ) → a < A.size → b < A.size → A.times a b ≡ A.times b a
  pub times_one : (a : ℕ) → a < A.size → A.times a 1 ≡ a
  pub times_plus : (a b c : ℕ) → a < A.size → b < A.size → c < A.size
      → A.times a (A.plus b c) ≡ A.plus (A.times a b) (A.times a c)
  pub minus_plus : (a b : ℕ) → a < A.size → b < A.size → A.plus (A.minus a b) b ≡ a

-- b is the only element with a × b = 1
pub record InverseOf (A : Arithmetic) (a b : ℕ) : Type 0 where
  pub element : b < A.size
  pub product : A.times a b ≡ 1
  pub only : (c : ℕ) → c < A.size → A.times a c ≡ 1 → c ≡ b

-- every element other than 0 makes 1 with some element
abbrev pub HasInverses : Arithmetic → Type 0
HasInverses A = (a : ℕ) → (a ≢ 0) → a < A.size → (b : ℕ) × (b < A.size) × (A.times a b ≡ 1)

-- Every element other than 0 has exactly one inverse, and the field answers it. It answers nothing
-- for 0 and for a number that is no element.
pub record InverseLaws (m : Meaning) : Type 0 where
  pub inverts : (a : ℕ) → (a ≢ 0) → a < m.arithmetic.size
      → (b : ℕ) × (m.inverse a ≡ Some b) × InverseOf m.arithmetic a b
  pub nothing_for_zero : m.inverse 0 ≡ None
  pub nothing_outside : (a : ℕ) → m.arithmetic.size ≤ a → m.inverse a ≡ None

-- What a field is. The parts are named, since a ring without inverses has all but the last.
pub record Laws (m : Meaning) : Type 0 where
  pub total : Total m.arithmetic
  pub bounded : m.arithmetic.size ≤ largest_size
  pub ring : RingLaws m.arithmetic
  pub inverses : InverseLaws m
