-- Irreducible polynomials over two elements.
use Rattle.std.specs.Prelude.{◌≡◌, ℕ, ◌≤◌}
use Rattle.fields.specs.CarrylessProduct.{◌⊗◌}

-- f is a product of two polynomials of degree 1 or more
abbrev pub Factored : ℕ → Type 0
Factored f = (a : ℕ) × (b : ℕ) × (2 ≤ a) × (2 ≤ b) × (a ⊗ b ≡ f)

-- f is no product of two polynomials of degree 1 or more
abbrev pub Unfactored : ℕ → Type 0
Unfactored f = (a b : ℕ) → 2 ≤ a → 2 ≤ b → a ⊗ b ≡ f → ⊥

-- f has degree 1 or more, and is no product of two such polynomials
pub record Irreducible (f : ℕ) : Type 0 where
  pub no_constant : 2 ≤ f
  pub no_product : Unfactored f
