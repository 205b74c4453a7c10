-- What the definitions on polynomials over two elements are held to: the laws of a ring, what a
-- remainder is, and examples.
use Rattle.std.specs.Prelude.{◌≡◌, ℕ, ◌+◌, ◌^◌, bit_xor}
use Rattle.fields.specs.CarrylessProduct.{◌⊗◌}
use Rattle.fields.specs.LongDivision.{Degree, Remainder, remainder}

-- With exclusive or as the sum, the carry-less product makes a commutative ring in which degrees
-- add up. The last two laws pin it: X^i times X^j is X^(i + j), every polynomial is a sum of powers
-- of X, and the product is distributive.
pub record CarrylessRing : Type 0 where
  pub sum_assoc : (a b c : ℕ) → bit_xor (bit_xor a b) c ≡ bit_xor a (bit_xor b c)
  pub sum_comm : (a b : ℕ) → bit_xor a b ≡ bit_xor b a
  pub sum_zero : (a : ℕ) → bit_xor a 0 ≡ a
  pub sum_self : (a : ℕ) → bit_xor a a ≡ 0
  pub product_assoc : (a b c : ℕ) → a ⊗ b ⊗ c ≡ a ⊗ (b ⊗ c)
  pub product_comm : (a b : ℕ) → a ⊗ b ≡ b ⊗ a
  pub product_one : (a : ℕ) → a ⊗ 1 ≡ a
  pub product_degree : (a b j k : ℕ) → Degree a j → Degree b k → Degree (a ⊗ b) (j + k)
  pub product_sum : (a b c : ℕ) → a ⊗ bit_xor b c ≡ bit_xor (a ⊗ b) (a ⊗ c)
  pub product_powers : (i j : ℕ) → 2 ^ i ⊗ 2 ^ j ≡ 2 ^ (i + j)

-- long division gives a remainder, and there is no other
pub record DivisionLaw : Type 0 where
  pub divides : (f k a : ℕ) → Degree f k → Remainder f k a (remainder f k a)
  pub only : (f k a r : ℕ) → Degree f k → Remainder f k a r → r ≡ remainder f k a

-- (X + 1)² = X² + 1; that is X modulo X² + X + 1; and the example of the Advanced Encryption
-- Standard, 0x57 × 0x83 = 0xc1 modulo 0x11b
abbrev pub PolynomialExamples : Type 0
PolynomialExamples =
    (3 ⊗ 3 ≡ 5) × (remainder 7 2 (3 ⊗ 3) ≡ 2) × (remainder 0x11b 8 (0x57 ⊗ 0x83) ≡ 0xc1)
