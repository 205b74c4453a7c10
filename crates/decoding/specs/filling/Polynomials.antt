-- What a polynomial of the code's own stands for.
use Rattle.std.specs.Prelude.{ℕ, ◌-◌, List, length}
use Rattle.decoding.specs.declared.filling.polynomial.Polynomial.{Polynomial}

-- its coefficients, the constant term first
abbrev pub coefficients_of : Polynomial → List ℕ
coefficients_of p = p.coefficients

abbrev pub degree_of : Polynomial → ℕ
degree_of p = length (coefficients_of p) - 1
