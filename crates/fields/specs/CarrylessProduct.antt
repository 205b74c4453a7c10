-- Polynomials over two elements as numbers: bit i of a number is the coefficient of X^i. The sum of
-- two is their exclusive or; this file has their product.
use Rattle.std.specs.Prelude.{ℕ, zero, suc, ◌*◌, ◌/◌, ◌%◌, ◌^◌, bit_xor}

-- bit i of a
abbrev pub bit : ℕ → ℕ → ℕ
bit a i = a / 2 ^ i % 2

-- the exclusive or of f 0, .., f (n − 1)
abbrev pub xor_sum : ℕ → (ℕ → ℕ) → ℕ
xor_sum zero f = 0
xor_sum (suc n) f = bit_xor (xor_sum n f) (f n)

-- The carry-less product: the exclusive or of b × 2^i over the bits i of a. All of them stand below
-- place a, since a < 2^a.
unfoldable pub ◌⊗◌ : ℕ → ℕ → ℕ
a ⊗ b = xor_sum a (λ i. bit a i * (b * 2 ^ i))

infixl 70 ◌⊗◌
