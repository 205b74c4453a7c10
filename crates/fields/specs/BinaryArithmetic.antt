-- Arithmetic of polynomials over two elements modulo one of them.
use Rattle.std.specs.Prelude.{ℕ, ◌-◌, ◌*◌, ◌^◌, bit_xor}
use Rattle.algebra.specs.Limits.{largest_size}
use Rattle.algebra.specs.Meaning.{Arithmetic, arithmetic_of}
use Rattle.fields.specs.CarrylessProduct.{◌⊗◌}
use Rattle.fields.specs.LongDivision.{remainder}

-- The polynomials of degree below k, where f has degree k. Sums and differences are the exclusive
-- or, and products are the remainders of carry-less products after division by f.
abbrev pub modulo_polynomial : ℕ → ℕ → Arithmetic
modulo_polynomial f k = arithmetic_of (2 ^ k) bit_xor bit_xor (λ a b. remainder f k (a ⊗ b))

-- the last number whose degree k makes 2^k elements that a field may have
abbrev pub largest_modulus : ℕ
largest_modulus = 2 * largest_size - 1
