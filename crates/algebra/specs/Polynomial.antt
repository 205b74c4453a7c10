-- Polynomials over a ring's elements, as lists of coefficients with the constant term first.
use Rattle.std.specs.Prelude.{ℕ, suc, ◌<◌, List, [], ◌∷◌, Some, None, Option, slice_index}
use Rattle.algebra.specs.Meaning.{Arithmetic, Meaning}

-- every coefficient is an element; past the end of the list stands 0
abbrev pub AllElements : Arithmetic → List ℕ → Type 0
AllElements A p = (k : ℕ) → slice_index p k < A.size

-- −x
abbrev pub negate : Arithmetic → ℕ → ℕ
negate A x = A.minus 0 x

-- p(x), by Horner's rule; 0 for the empty list
abbrev pub evaluate : Arithmetic → List ℕ → ℕ → ℕ
evaluate A [] x = 0
evaluate A (c ∷ p) x = A.plus c (A.times x (evaluate A p x))

-- c + (X − a) p, one coefficient longer than p
abbrev pub plus_linear : Arithmetic → ℕ → ℕ → List ℕ → List ℕ
plus_linear A c a [] = c ∷ []
plus_linear A c a (d ∷ p) = A.minus c (A.times a d) ∷ plus_linear A d a p

-- the product with X − a
abbrev pub linear_product : Arithmetic → ℕ → List ℕ → List ℕ
linear_product A a p = plus_linear A 0 a p

-- the product of X − a over all given points a
abbrev pub annihilator : Arithmetic → List ℕ → List ℕ
annihilator A [] = 1 ∷ []
annihilator A (a ∷ points) = linear_product A a (annihilator A points)

-- the quotient of p by X − a (synthetic division), one coefficient shorter than p; the remainder is
-- p(a)
abbrev pub quotient_linear : Arithmetic → ℕ → List ℕ → List ℕ
quotient_linear A a [] = []
quotient_linear A a (c ∷ []) = []
quotient_linear A a (c ∷ d ∷ p) = evaluate A (d ∷ p) a ∷ quotient_linear A a (d ∷ p)

-- p_0 s_k + p_1 s_(k+1) + .. : the polynomial applied to a sequence, where X drops the first term
abbrev pub act : Arithmetic → List ℕ → (ℕ → ℕ) → ℕ → ℕ
act A [] s k = 0
act A (c ∷ p) s k = A.plus (A.times c (s k)) (act A p s (suc k))

-- the number, or 0 for nothing
abbrev pub or_zero : Option ℕ → ℕ
or_zero (Some x) = x
or_zero None = 0

-- x / y; 0 where y has no inverse
abbrev pub divide : Meaning → ℕ → ℕ → ℕ
divide m x y = m.arithmetic.times x (or_zero (m.inverse y))
