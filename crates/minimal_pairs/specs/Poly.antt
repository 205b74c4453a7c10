-- Polynomials in 65 places, and the combination of two of them.
use Rattle.std.specs.Prelude.{◌≡◌, ℕ, ◌-◌, ◌<◌, cond, map, nat_le, nat_lt, slice_index}
use Rattle.std.specs.List.{range_with_len}
use Rattle.algebra.specs.Limits.{coefficients}
use Rattle.algebra.specs.Meaning.{Arithmetic}
use Rattle.minimal_pairs.specs.declared.poly.Poly.{Poly}

-- the value at j up to m, and 0 above
abbrev pub cut : ℕ → (ℕ → ℕ) → ℕ → ℕ
cut m f j = cond (nat_le j m) (f j) 0

-- the given coefficients up to that of X^m, and zeros above
unfoldable pub up_to : ℕ → (ℕ → ℕ) → Poly
up_to m f = record { coeffs = map (cut m f) (range_with_len 0 coefficients) }

-- the polynomial x, of degree 0
abbrev pub constant : ℕ → Poly
constant x = up_to 0 (λ _. x)

-- the coefficient of X^j in p
abbrev pub coeff : Poly → ℕ → ℕ
coeff p j = slice_index p.coeffs j

-- no coefficient above that of X^m is other than 0
abbrev pub UpTo : ℕ → Poly → Type 0
UpTo m p = (j : ℕ) → m < j → coeff p j ≡ 0

-- the coefficient of X^j in a × p − b × X^d × q
abbrev pub coefficient : Arithmetic → ℕ → Poly → ℕ → ℕ → Poly → ℕ → ℕ
coefficient A a p b d q j =
    cond (nat_lt j d) (A.times a (coeff p j))
    (A.minus (A.times a (coeff p j)) (A.times b (coeff q (j - d))))

-- a × p − b × X^d × q up to X^m
abbrev pub combined : Arithmetic → ℕ → Poly → ℕ → ℕ → Poly → ℕ → Poly
combined A a p b d q m = up_to m (coefficient A a p b d q)
