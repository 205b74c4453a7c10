-- A body is the body of one card.
use Rattle.std.proofs.Common.{◌≡◌, ℕ, ◌≤◌, List, Ok, Err, ap, subst, ap₂}
use mathlib.Core.HLevel.{Σ_prop_path}
use Rattle.std.proofs.Props.{props}
use Rattle.fields.specs.Modulo.{Listed}
use Rattle.fields.specs.LongDivision.{Degree}
use Rattle.fields.specs.Irreducible.{Unfactored}
use Rattle.fields.specs.BinaryArithmetic.{largest_modulus}
use Rattle.fields.specs.PolynomialDegrees.{degree_unique}
use Rattle.fields.specs.declared.field.Field.{Ghosts}
use Rattle.fields.specs.declared.prime_field.PrimeField.{PrimeField}
use Rattle.fields.specs.declared.binary_field.BinaryField.{BinaryField}
use Rattle.codes.specs.Code.{Code}
use Rattle.codes.specs.Cards.{card_code}
use Rattle.codes.specs.Checked.{Checked}
use Rattle.codes.specs.CheckedOnce.{checked_prop}
use Rattle.codes.specs.declared.card.Card as cards
use Rattle.codes.specs.declared.any_card.AnyCard.{AnyCard}
use Rattle.codes.specs.declared.any_card.AnyCard.TheVariants.{Prime, Binary}
use Rattle.tray_file.specs.body.CardBodies.{CardIn}
use Rattle.tray_file.specs.body.OneReading.{CardReadsBack}
use Rattle.tray_file.proofs.body_lemmas.OneCard.{SameCard, same_cards, card_never}

-- a field of the prime kind is told by its prime
same_prime_field : (a b : PrimeField) → a.prime ≡ b.prime → a ≡ b
same_prime_field a b prime =
    let same : ◌≡◌ {A = (p : ℕ) × Listed p} (a.prime, a.listed) (b.prime, b.listed) =
    Σ_prop_path (λ p. hlevel props) prime in
    ap (λ u. record { prime = u.0; listed = u.1 }) same

-- what a field of the binary kind keeps of its modulus and degree
abbrev BinaryFacts : ℕ × ℕ → Type 0
BinaryFacts p = (2 ≤ p.0) × Unfactored p.0 × Degree p.0 p.1 × (p.0 ≤ largest_modulus)

-- a field of the binary kind is told by its modulus
same_binary_field : (a b : BinaryField) → a.modulus ≡ b.modulus → a ≡ b
same_binary_field a b modulus =
    let degree = degree_unique b.modulus a.degree b.degree (subst (λ f. Degree f a.degree) modulus a.leading) b.leading in
    let same : ◌≡◌ {A = (p : ℕ × ℕ) × BinaryFacts p}
    ((a.modulus, a.degree), (a.nonconstant, a.unfactored, a.leading, a.bounded))
    ((b.modulus, b.degree), (b.nonconstant, b.unfactored, b.leading, b.bounded)) =
    Σ_prop_path (λ p. hlevel props) (ap₂ (λ n k. (n, k)) modulus degree) in
    ap (λ u. record { modulus = u.0.0; degree = u.0.1; nonconstant = u.1.0; unfactored = u.1.1; leading = u.1.2; bounded = u.1.3 }) same

-- a card is told by its field and the values of its code
module _ {F : Type 0} {g : Ghosts F} where
  same_card : (a b : cards.Card F g) → a.field ≡ b.field → card_code a ≡ card_code b → a ≡ b
  same_card a b field code =
      let same : ◌≡◌ {A = (p : F × Code) × Checked (g.meaning p.0) p.1} ((a.field, card_code a), a.checked) ((b.field, card_code b), b.checked) =
      Σ_prop_path (λ p. checked_prop (g.meaning p.0) p.1) (ap₂ (λ (f : F) (c : Code). (f, c)) field code) in
      ap (λ (u : (p : F × Code) × Checked (g.meaning p.0) p.1). record {
        field = u.0.0;
        letters = u.0.1.letters;
        rows = u.0.1.rows;
        locators = record { items = u.0.1.locators };
        multipliers = record { items = u.0.1.multipliers };
        checked = u.1;
      }) same

same_prime_card : {g : Ghosts PrimeField} → (a b : cards.Card PrimeField g) → a.field.prime ≡ b.field.prime → card_code a ≡ card_code b → a ≡ b
same_prime_card a b prime code = same_card a b (same_prime_field a.field b.field prime) code

same_binary_card : {g : Ghosts BinaryField} → (a b : cards.Card BinaryField g) → a.field.modulus ≡ b.field.modulus → card_code a ≡ card_code b → a ≡ b
same_binary_card a b modulus code = same_card a b (same_binary_field a.field b.field modulus) code

pub equal_cards : (a b : AnyCard) → SameCard a b → a ≡ b
equal_cards (Prime a) (Prime b) same = ap (λ c. Prime c) (same_prime_card a b same.0 same.1)
equal_cards (Binary a) (Binary b) same = ap (λ c. Binary c) (same_binary_card a b same.0 same.1)
equal_cards (Prime a) (Binary b) never = absurd never
equal_cards (Binary a) (Prime b) never = absurd never

-- two cards with one body are equal
pub one_card : (body : List ℕ) (a b : AnyCard) → CardIn body a → CardIn body b → a ≡ b
one_card body a b is also = equal_cards a b (same_cards body a b is also)

pub card_reads_back : CardReadsBack
card_reads_back body card (Ok found) is read = ap (λ c. Ok c) (one_card body found card read is)
card_reads_back body card (Err fault) is refused = absurd (card_never body card fault is refused)
