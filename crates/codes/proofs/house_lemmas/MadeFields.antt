-- The field that a row's origin makes, and the row's values over it.
use Rattle.std.proofs.Common.{ℕ, Ok, sym, ap, ◌∙◌, subst}
use Rattle.algebra.specs.Meaning.{Meaning, with_inverses}
use Rattle.fields.specs.BinaryArithmetic.{modulo_polynomial}
use Rattle.fields.specs.Binary.{BinaryFieldMade, binary_meaning}
use Rattle.fields.specs.Prime.{PrimeFieldMade, prime_meaning}
use Rattle.fields.specs.declared.binary_field.BinaryField.{BinaryField}
use Rattle.fields.specs.declared.prime_field.PrimeField.{PrimeField}
use Rattle.fields.specs.PolynomialDegrees.{degree_unique}
use Rattle.codes.specs.Checked.{Checked}
use Rattle.codes.specs.house.HouseRows.{row_code}
use Rattle.codes.specs.house.HouseCards.{PrimeRow, BinaryRow}
use Rattle.codes.specs.declared.house.rows.HouseRow.{HouseRow}

pub over_prime : (row : HouseRow) (field : PrimeField) → PrimeRow row → PrimeFieldMade row.origin (Ok field) → Checked (prime_meaning field) (row_code row)
over_prime row field fits made = subst (λ (m : Meaning). Checked m (row_code row)) (sym made.2) fits.checked

-- the field that was made knows the row's degree
pub over_binary : (row : HouseRow) (field : BinaryField) → BinaryRow row → BinaryFieldMade row.origin (Ok field) → Checked (binary_meaning field) (row_code row)
over_binary row field fits made =
    let same = degree_unique row.origin fits.degree field.degree fits.origin.degree made.0.degree in
    subst (λ (m : Meaning). Checked m (row_code row)) (ap (λ (k : ℕ). with_inverses (modulo_polynomial row.origin k)) same ∙ sym made.1) fits.checked
