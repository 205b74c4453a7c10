-- Powers and finite sums of a ring's elements.
use Rattle.std.specs.Prelude.{ℕ, zero, suc}
use Rattle.algebra.specs.Meaning.{Arithmetic}

-- x × a^k: x times a, k times over, from left to right
abbrev pub times_power : Arithmetic → ℕ → ℕ → ℕ → ℕ
times_power A x a zero = x
times_power A x a (suc k) = A.times (times_power A x a k) a

-- a^k; the power 0 of every number is 1, also of 0
abbrev pub power : Arithmetic → ℕ → ℕ → ℕ
power A a k = times_power A 1 a k

-- f 0 + .. + f (n − 1), from left to right; 0 where n is 0
abbrev pub sum : Arithmetic → ℕ → (ℕ → ℕ) → ℕ
sum A zero f = 0
sum A (suc n) f = A.plus (sum A n f) (f n)
