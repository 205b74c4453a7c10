-- What a field means: its size and what its calls answer, for all numbers.
use Rattle.std.specs.Prelude.{ℕ, zero, suc, Bool, cond, ◌&&◌, Some, None, Option, nat_eq, nat_lt}

-- The part that a ring without inverses has too. The elements are the numbers below the size.
pub record Arithmetic : Type 0 where
  pub size : ℕ
  pub plus : ℕ → ℕ → ℕ
  pub minus : ℕ → ℕ → ℕ
  pub times : ℕ → ℕ → ℕ

pub record Meaning : Type 0 where
  pub arithmetic : Arithmetic
  pub inverse : ℕ → Option ℕ

-- what an operation answers to two numbers below the size, and 0 to all others
abbrev pub on_elements : ℕ → (ℕ → ℕ → ℕ) → ℕ → ℕ → ℕ
on_elements size op a b = cond (nat_lt a size && nat_lt b size) (op a b) 0

-- the arithmetic that answers by these operations on the numbers below the size
abbrev pub arithmetic_of : ℕ → (ℕ → ℕ → ℕ) → (ℕ → ℕ → ℕ) → (ℕ → ℕ → ℕ) → Arithmetic
arithmetic_of size add subtract multiply = record {
  size = size;
  plus = on_elements size add;
  minus = on_elements size subtract;
  times = on_elements size multiply;
}

-- the first of two answers that is there
abbrev pub or_else : Option ℕ → Option ℕ → Option ℕ
or_else (Some x) other = Some x
or_else None other = other

-- the least number below n that passes the test, or nothing where none does
abbrev pub first : (ℕ → Bool) → ℕ → Option ℕ
first test zero = None
first test (suc n) = or_else (first test n) (cond (test n) (Some n) None)

-- the least element b with a × b = 1, or nothing where there is none
abbrev pub inverse_in : Arithmetic → ℕ → Option ℕ
inverse_in A a = first (λ b. nat_eq (A.times a b) 1) A.size

-- an arithmetic, with the inverses that it has
abbrev pub with_inverses : Arithmetic → Meaning
with_inverses A = record { arithmetic = A; inverse = inverse_in A }
