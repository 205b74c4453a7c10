-- The products of an element, as one number.
use Rattle.std.specs.Prelude.{ℕ, zero, suc, ◌+◌, ◌*◌, ◌%◌}
use Rattle.algebra.specs.Meaning.{Arithmetic}

-- 1 at first, and for each number b below n in turn the number so far × 257 + a × b, modulo 65521
unfoldable pub folded : Arithmetic → ℕ → ℕ → ℕ
folded A a zero = 1
folded A a (suc b) = (folded A a b * 257 + A.times a b) % 65521
