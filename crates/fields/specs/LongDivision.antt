-- The remainder of a polynomial after division by another.
use Rattle.std.specs.Prelude.{◌≡◌, ℕ, zero, suc, ◌+◌, ◌*◌, ◌/◌, ◌%◌, ◌^◌, ◌<◌, cond, bit_xor, nat_lt}
use Rattle.fields.specs.CarrylessProduct.{◌⊗◌}

-- f has degree k: bit k is its highest
abbrev pub Degree : ℕ → ℕ → Type 0
Degree f k = f / 2 ^ k ≡ 1

-- One step of long division by f of degree k: the next coefficient c is brought down behind the
-- remainder r, and f is taken off if the degree is then k.
abbrev pub bring_down : ℕ → ℕ → ℕ → ℕ → ℕ
bring_down f k r c = cond (nat_lt (r * 2 + c) (2 ^ k)) (r * 2 + c) (bit_xor (r * 2 + c) f)

-- long division of the number that the lowest n bits of a make, from the highest of these bits down
abbrev pub divide_bits : ℕ → ℕ → ℕ → ℕ → ℕ
divide_bits f k zero a = 0
divide_bits f k (suc n) a = bring_down f k (divide_bits f k n (a / 2)) (a % 2)

-- the remainder of a after division by f of degree k; a number has no more bits than its value
unfoldable pub remainder : ℕ → ℕ → ℕ → ℕ
remainder f k a = divide_bits f k a a

-- What it is: the r of degree below k that differs from a by a multiple of f.
pub record Remainder (f k a r : ℕ) : Type 0 where
  pub quotient : ℕ
  pub divides : a ≡ bit_xor (quotient ⊗ f) r
  pub small : r < 2 ^ k
