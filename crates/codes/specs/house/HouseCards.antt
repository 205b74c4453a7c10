-- The checked cards of the house rows.
use Rattle.std.specs.Prelude.{◌≡◌, ℕ, Ok, Err, Result}
use Rattle.algebra.specs.Meaning.{with_inverses}
use Rattle.fields.specs.Modulo.{Listed, modulo}
use Rattle.fields.specs.Prime.{prime_meaning, prime_accepted}
use Rattle.fields.specs.BinaryArithmetic.{modulo_polynomial}
use Rattle.fields.specs.Binary.{BinaryModulus, binary_meaning, binary_accepted}
use Rattle.fields.specs.declared.prime_field.PrimeField.{PrimeField}
use Rattle.fields.specs.declared.binary_field.BinaryField.{BinaryField}
use Rattle.fields.specs.declared.field.Field.{Ghosts}
use Rattle.codes.specs.Checked.{Checked}
use Rattle.codes.specs.Cards.{card_code}
use Rattle.fields.specs.Kinds.{prime_kind, binary_kind}
use Rattle.fields.specs.FieldKinds.{field_kind_number}
use Rattle.codes.specs.house.HouseRows.{row_code, IsHouseNumber, house_row, house_number}
use Rattle.codes.specs.declared.card.Card.{Card}
use Rattle.codes.specs.declared.house.rows.HouseRow.{HouseRow}
use Rattle.codes.specs.declared.house.rows.HouseRefusal.{HouseRefusal}
use Rattle.codes.specs.declared.any_card.AnyCard.{AnyCard}
use Rattle.codes.specs.declared.any_card.AnyCard.TheVariants.{Prime, Binary}

-- The row is of the prime kind, its origin makes a field, and over that field its values keep every
-- rule of a card.
pub record PrimeRow (row : HouseRow) : Type 0 where
  pub kind : field_kind_number row.kind ≡ prime_kind
  pub origin : Listed row.origin
  pub checked : Checked (with_inverses (modulo row.origin)) (row_code row)

-- the same of the binary kind
pub record BinaryRow (row : HouseRow) : Type 0 where
  pub kind : field_kind_number row.kind ≡ binary_kind
  pub degree : ℕ
  pub origin : BinaryModulus row.origin degree
  pub checked : Checked (with_inverses (modulo_polynomial row.origin degree)) (row_code row)

-- The card has the row's values and is checked. Its field works modulo the row's origin and is
-- accepted.
pub record PrimeCardOf {g : Ghosts PrimeField} (row : HouseRow)
    (card : Card PrimeField g) : Type 0 where
  pub kind : field_kind_number row.kind ≡ prime_kind
  pub meaning : prime_meaning card.field ≡ with_inverses (modulo row.origin)
  pub accepted : prime_accepted card.field
  pub made_from : card.field.prime ≡ row.origin
  pub values : card_code card ≡ row_code row
  pub checked : Checked (prime_meaning card.field) (card_code card)

-- the same of the binary kind, where the origin is a polynomial and the field knows its degree
pub record BinaryCardOf {g : Ghosts BinaryField} (row : HouseRow)
    (card : Card BinaryField g) : Type 0 where
  pub kind : field_kind_number row.kind ≡ binary_kind
  pub origin : BinaryModulus row.origin card.field.degree
  pub meaning : binary_meaning card.field
      ≡ with_inverses (modulo_polynomial row.origin card.field.degree)
  pub accepted : binary_accepted card.field
  pub made_from : card.field.modulus ≡ row.origin
  pub values : card_code card ≡ row_code row
  pub checked : Checked (binary_meaning card.field) (card_code card)

abbrev pub HouseCardOf : HouseRow → AnyCard → Type 0
HouseCardOf row (Prime card) = PrimeCardOf row card
HouseCardOf row (Binary card) = BinaryCardOf row card

-- The card of the row with this number; any other number is refused with 18.
abbrev pub HouseCardMade : ℕ → Result AnyCard HouseRefusal → Type 0
HouseCardMade number (Ok card) = IsHouseNumber number × HouseCardOf (house_row number) card
HouseCardMade number (Err refusal) = (house_number refusal ≡ 18) × (IsHouseNumber number → ⊥)
