-- What the prime kind means, and what its maker answers.
use Rattle.std.specs.Prelude.{◌≡◌, ℕ, Ok, Err, Result}
use Rattle.algebra.specs.Meaning.{Meaning, with_inverses}
use Rattle.fields.specs.Modulo.{Listed, Prime, modulo}
use Rattle.fields.specs.Causes.{field_number}
use Rattle.fields.specs.declared.cause.FieldCause.{FieldCause}
use Rattle.fields.specs.declared.prime_field.PrimeField.{PrimeField}

abbrev pub prime_meaning : PrimeField → Meaning
prime_meaning f = with_inverses (modulo f.prime)

abbrev pub prime_accepted : PrimeField → Type 0
prime_accepted f = Listed f.prime

-- Granted exactly for a listed number, which is then prime: the field works modulo it and is
-- accepted. Any other number is refused with 11.
abbrev pub PrimeFieldMade : ℕ → Result PrimeField FieldCause → Type 0
PrimeFieldMade p (Ok f) =
    Listed p × Prime p × (prime_meaning f ≡ with_inverses (modulo p)) × prime_accepted f
    × (f.prime ≡ p)
PrimeFieldMade p (Err cause) = (field_number cause ≡ 11) × (Listed p → ⊥)
