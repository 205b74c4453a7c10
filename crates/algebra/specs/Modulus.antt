-- What makes remainders after division by a modulus a field, for whole numbers and for polynomials.
use Rattle.std.specs.Prelude.{◌≡◌, ◌≢◌, ℕ, ◌<◌, ◌≤◌}

-- What a modulus gives. `add` and `mul` work on all numbers, `reduce` takes the remainder, and the
-- three operations are the reduced ones where both arguments are remainders.
pub record Modulus (size : ℕ) (plus minus times : ℕ → ℕ → ℕ) : Type 0 where
  pub add : ℕ → ℕ → ℕ
  pub mul : ℕ → ℕ → ℕ
  pub reduce : ℕ → ℕ
  pub modulus : ℕ
  pub add_assoc : (a b c : ℕ) → add (add a b) c ≡ add a (add b c)
  pub add_comm : (a b : ℕ) → add a b ≡ add b a
  pub add-zero : (a : ℕ) → add a 0 ≡ a
  pub mul_assoc : (a b c : ℕ) → mul (mul a b) c ≡ mul a (mul b c)
  pub mul_comm : (a b : ℕ) → mul a b ≡ mul b a
  pub mul-one : (a : ℕ) → mul a 1 ≡ a
  pub mul-zero : (a : ℕ) → mul a 0 ≡ 0
  pub mul-add : (a b c : ℕ) → mul a (add b c) ≡ add (mul a b) (mul a c)
  pub smallest : 2 ≤ size
  pub reduce_below : (x : ℕ) → reduce x < size
  pub reduce_small : (x : ℕ) → x < size → reduce x ≡ x
  pub reduce_add : (x y : ℕ) → reduce (add (reduce x) y) ≡ reduce (add x y)
  pub reduce_mul : (x y : ℕ) → reduce (mul (reduce x) y) ≡ reduce (mul x y)
  pub reduce_modulus : reduce modulus ≡ 0
  pub plus_is : (a b : ℕ) → a < size → b < size → plus a b ≡ reduce (add a b)
  pub times_is : (a b : ℕ) → a < size → b < size → times a b ≡ reduce (mul a b)
  pub minus_below : (a b : ℕ) → a < size → b < size → minus a b < size
  pub minus_is : (a b : ℕ) → a < size → b < size → plus (minus a b) b ≡ a
  -- the modulus divided by a: the remainder is smaller than a, and it is not 0 unless a is 1
  pub quotient : ℕ → ℕ
  pub rest : ℕ → ℕ
  pub division : (a : ℕ) → 0 < a → modulus ≡ add (mul (quotient a) a) (rest a)
  pub rest_smaller : (a : ℕ) → 0 < a → rest a < a
  pub no_factor : (a : ℕ) → 2 ≤ a → a < size → rest a ≢ 0
