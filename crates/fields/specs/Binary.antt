-- What the binary kind means, and what its maker answers.
use Rattle.std.specs.Prelude.{◌≡◌, ℕ, ◌<◌, ◌≤◌, ◌⊎◌, Ok, Err, Result}
use Rattle.algebra.specs.Meaning.{Meaning, with_inverses}
use Rattle.fields.specs.LongDivision.{Degree}
use Rattle.fields.specs.Irreducible.{Irreducible, Factored}
use Rattle.fields.specs.BinaryArithmetic.{modulo_polynomial, largest_modulus}
use Rattle.fields.specs.Causes.{field_number}
use Rattle.fields.specs.declared.cause.FieldCause.{FieldCause}
use Rattle.fields.specs.declared.binary_field.BinaryField.{BinaryField}

abbrev pub binary_meaning : BinaryField → Meaning
binary_meaning x = with_inverses (modulo_polynomial x.modulus x.degree)

-- what a modulus must be, with its degree
pub record BinaryModulus (f k : ℕ) : Type 0 where
  pub irreducible : Irreducible f
  pub degree : Degree f k
  pub bounded : f ≤ largest_modulus

-- what no modulus is: above the largest, or below 2, or a product of two polynomials of degree 1 or
-- more
abbrev pub NoModulus : ℕ → Type 0
NoModulus f = (largest_modulus < f) ⊎ (f < 2) ⊎ Factored f

abbrev pub binary_accepted : BinaryField → Type 0
binary_accepted x = BinaryModulus x.modulus x.degree

-- Granted exactly for an irreducible polynomial up to the largest: the field knows its degree,
-- works modulo it and is accepted. Any other number is refused with 12.
abbrev pub BinaryFieldMade : ℕ → Result BinaryField FieldCause → Type 0
BinaryFieldMade f (Ok x) =
    BinaryModulus f x.degree × (binary_meaning x ≡ with_inverses (modulo_polynomial f x.degree))
    × binary_accepted x × (x.modulus ≡ f)
BinaryFieldMade f (Err cause) = (field_number cause ≡ 12) × NoModulus f
