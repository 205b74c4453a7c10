-- The bodies of card records.
use Rattle.std.specs.Prelude.{◌≡◌, ℕ, ◌+◌, ◌⊎◌, List, ◌∷◌, ◌++◌, length, Ok, Err, Result, ◌≢◌}
use Rattle.algebra.specs.Meaning.{Meaning}
use Rattle.algebra.specs.Alphabet.{Alphabet}
use Rattle.fields.specs.Modulo.{Listed}
use Rattle.fields.specs.Prime.{prime_meaning}
use Rattle.fields.specs.Binary.{NoModulus, binary_meaning}
use Rattle.fields.specs.declared.prime_field.PrimeField.{PrimeField}
use Rattle.fields.specs.declared.binary_field.BinaryField.{BinaryField}
use Rattle.fields.specs.declared.cause.FieldCause.TheVariants.{NoPrime, BadModulus}
use Rattle.codes.specs.Code.{Code}
use Rattle.codes.specs.Cards.{card_code}
use Rattle.codes.specs.Checked.{Checked, LocatorsFit, MultipliersFit}
use Rattle.fields.specs.declared.field.Field.{Ghosts}
use Rattle.fields.specs.contracts.prime_field.PrimeFieldField.TheImpl as prime_field
use Rattle.fields.specs.contracts.binary_field.BinaryFieldField.TheImpl as binary_field
use Rattle.fields.specs.Kinds.{prime_kind, binary_kind}
use Rattle.codes.specs.declared.card.Card as cards
use Rattle.codes.specs.declared.card_cause.CardCause.TheVariants.{BadShape, NoAlphabet, BadLocator, BadMultiplier}
use Rattle.tray_file.specs.fault.Layers.{body_fault_number}
use Rattle.tray_file.specs.body.NumberLists.{numbers, after, Begins, NumberMissing}
use Rattle.tray_file.specs.body.WholeLists.{ListRefused, Are}
use Rattle.tray_file.specs.body.CardHeads.{head_count, head_numbers, HeadShape, FieldOf, HeadFits}
use Rattle.tray_file.specs.declared.fault.body_fault.BodyFault.{BodyFault}
use Rattle.tray_file.specs.declared.fault.body_fault.BodyFault.TheVariants.{BadNumber, BadBody, BadNote, Field, Card, Tag}
use Rattle.tray_file.specs.declared.fault.field_fault.FieldFault.TheVariants.{NoSuchField, Made}
use Rattle.tray_file.specs.declared.body.card_head.CardHead.{CardHead}
use Rattle.tray_file.specs.declared.body.card_head.ReadHead.{ReadHead}
use Rattle.codes.specs.declared.any_card.AnyCard.{AnyCard}
use Rattle.codes.specs.declared.any_card.AnyCard.TheVariants.{Prime, Binary}

-- The body of a card: field kind, what the field is made from, Q, n, r, the locators, the
-- multipliers.
abbrev pub card_body : ℕ → ℕ → Code → List ℕ
card_body kind origin code =
    numbers (kind ∷ origin ∷ code.letters ∷ length code.locators ∷ code.rows
    ∷ (code.locators ++ code.multipliers))

-- a head stands first in the body, and its end is known
pub record HeadStands (read : ReadHead) (body : List ℕ) : Type 0 where
  pub begins : Begins (head_numbers read.head) body
  pub end : read.end ≡ length (numbers (head_numbers read.head))

-- the body of a card with this head: the head fits, and both lists are there, with nothing after
-- them
pub record Values (m : Meaning) (head : CardHead) (body : List ℕ) (code : Code) : Type 0 where
  pub fits : HeadFits m head
  pub letters : code.letters ≡ head.letters
  pub rows : code.rows ≡ head.rows
  pub locators : length code.locators ≡ head.cells
  pub multipliers : length code.multipliers ≡ head.cells
  pub lists : Are (code.locators ++ code.multipliers) (after (head_numbers head) body)
  pub written : body ≡ card_body head.kind head.origin code

-- the first rule that breaks once the head's field is known: 13 for the shape, 14 for the alphabet,
-- then 32 or 35 for the lists as numbers, then 15 or 16 for what they hold
abbrev pub ValuesRefused : Meaning → CardHead → List ℕ → BodyFault → Type 0
ValuesRefused m head body (BadNumber place) =
    (body_fault_number (BadNumber place) ≡ 32)
    × HeadFits m head
    × ListRefused (length (numbers (head_numbers head))) (head.cells + head.cells)
    (after (head_numbers head) body) (BadNumber place)
ValuesRefused m head body BadBody =
    (body_fault_number BadBody ≡ 35)
    × HeadFits m head
    × ListRefused (length (numbers (head_numbers head))) (head.cells + head.cells)
    (after (head_numbers head) body) BadBody
ValuesRefused m head body (Card BadShape) =
    (body_fault_number (Card BadShape) ≡ 13) × (HeadShape head → ⊥)
ValuesRefused m head body (Card NoAlphabet) =
    (body_fault_number (Card NoAlphabet) ≡ 14)
    × HeadShape head × (Alphabet m.arithmetic head.letters → ⊥)
ValuesRefused m head body (Card BadLocator) =
    (body_fault_number (Card BadLocator) ≡ 15)
    × (code : Code) × Values m head body code × (LocatorsFit m code.locators → ⊥)
ValuesRefused m head body (Card BadMultiplier) =
    (body_fault_number (Card BadMultiplier) ≡ 16)
    × (code : Code) × Values m head body code × LocatorsFit m code.locators
    × (MultipliersFit m code.multipliers → ⊥)
ValuesRefused m head body BadNote = ⊥
ValuesRefused m head body (Field fault) = ⊥
ValuesRefused m head body (Tag cause) = ⊥

-- The card over the field that its head names: the body is the card's own, byte for byte, or the
-- first broken rule is answered.
abbrev pub CardOver : {F : Type 0} {g : Ghosts F} → Meaning → F → CardHead → List ℕ
    → Result (cards.Card F g) BodyFault → Type 0
CardOver m field head body (Ok card) =
    (card.field ≡ field) × Checked m (card_code card)
    × (body ≡ card_body head.kind head.origin (card_code card))
CardOver m field head body (Err fault) = ValuesRefused m head body fault

-- The first that applies: 32 or 35 where five numbers do not stand first, 10 where no kind of field
-- has the head's number, 11 where the prime kind makes no field of its origin, 12 where the binary
-- kind makes none.
abbrev pub HeadRefused : List ℕ → BodyFault → Type 0
HeadRefused body (BadNumber place) =
    (body_fault_number (BadNumber place) ≡ 32)
    × NumberMissing 0 head_count body (BadNumber place)
HeadRefused body BadBody =
    (body_fault_number BadBody ≡ 35) × NumberMissing 0 head_count body BadBody
HeadRefused body (Field NoSuchField) =
    (body_fault_number (Field NoSuchField) ≡ 10)
    × (head : CardHead) × Begins (head_numbers head) body × (head.kind ≢ prime_kind)
    × (head.kind ≢ binary_kind)
HeadRefused body (Field (Made NoPrime)) =
    (body_fault_number (Field (Made NoPrime)) ≡ 11)
    × (head : CardHead) × Begins (head_numbers head) body × (head.kind ≡ prime_kind)
    × (Listed head.origin → ⊥)
HeadRefused body (Field (Made BadModulus)) =
    (body_fault_number (Field (Made BadModulus)) ≡ 12)
    × (head : CardHead) × Begins (head_numbers head) body × (head.kind ≡ binary_kind)
    × NoModulus head.origin
HeadRefused body BadNote = ⊥
HeadRefused body (Card cause) = ⊥
HeadRefused body (Tag cause) = ⊥

-- the head names a field, and over that field a rule breaks
pub record RestRefused (body : List ℕ) (fault : BodyFault) : Type 0 where
  pub head : CardHead
  pub meaning : Meaning
  pub begins : Begins (head_numbers head) body
  pub field : FieldOf head meaning
  pub refused : ValuesRefused meaning head body fault

-- the card is checked, and the body is its own, byte for byte
pub record PrimeCardIn (body : List ℕ)
    (card : cards.Card PrimeField prime_field.ghosts) : Type 0 where
  pub checked : Checked (prime_meaning card.field) (card_code card)
  pub written : body ≡ card_body prime_kind card.field.prime (card_code card)

pub record BinaryCardIn (body : List ℕ)
    (card : cards.Card BinaryField binary_field.ghosts) : Type 0 where
  pub checked : Checked (binary_meaning card.field) (card_code card)
  pub written : body ≡ card_body binary_kind card.field.modulus (card_code card)

abbrev pub CardIn : List ℕ → AnyCard → Type 0
CardIn body (Prime card) = PrimeCardIn body card
CardIn body (Binary card) = BinaryCardIn body card

-- The checked card whose body this is, or the first broken rule.
abbrev pub CardRead : List ℕ → Result AnyCard BodyFault → Type 0
CardRead body (Ok card) = CardIn body card
CardRead body (Err fault) = HeadRefused body fault ⊎ RestRefused body fault
