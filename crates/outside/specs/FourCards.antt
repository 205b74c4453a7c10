-- Cards of the field of four elements.
use Rattle.std.specs.Prelude.{◌≡◌, ℕ, ◌⊎◌, List, [], ◌∷◌, Ok, Err, Result}
use Rattle.kimzhadyr.specs.Meaning.{with_inverses}
use Rattle.outside.specs.four_field.FourElements.{four_elements, four_meaning}
use Rattle.outside.specs.declared.four_field.FourField.{FourField}
use Rattle.kimzhadyr.specs.Code.{Code}
use Rattle.kimzhadyr.specs.types.Field.{Ghosts}
use Rattle.kimzhadyr.specs.Checked.{Checked}
use Rattle.kimzhadyr.specs.Cards.{card_code, card_number}
use Rattle.kimzhadyr.specs.types.Card.{Card}
use Rattle.kimzhadyr.specs.types.CardCause.{CardCause}
use Rattle.kimzhadyr.specs.Elements.{AllBelow}
use Rattle.kimzhadyr.specs.Encodings.{Encodes, encode_number}
use Rattle.kimzhadyr.specs.types.EncodeRefusal.{EncodeRefusal}

-- two rows, the locators 0 to 3 and multipliers 1
abbrev pub four_code : ℕ → Code
four_code letters =
    record {
      letters = letters;
      rows = 2;
      locators = 0 ∷ 1 ∷ 2 ∷ 3 ∷ [];
      multipliers = 1 ∷ 1 ∷ 1 ∷ 1 ∷ [];
    }

-- two letters, or all four elements
abbrev pub TwoOrFour : ℕ → Type 0
TwoOrFour letters = (letters ≡ 2) ⊎ (letters ≡ 4)

-- A card is made with two letters or with four, and is checked; any other number of letters is
-- refused with 14.
abbrev pub FourCardMade : {g : Ghosts FourField} → ℕ → Result (Card FourField g) CardCause → Type 0
FourCardMade letters (Ok card) =
    TwoOrFour letters × (card_code card ≡ four_code letters)
    × Checked (four_meaning card.field) (card_code card)
FourCardMade letters (Err cause) = (TwoOrFour letters → ⊥) × (card_number cause ≡ 14)

-- The only codeword with four letters that begins with the data; data with a number from 4 on are
-- refused with 22.
abbrev pub EncodedOnFour : List ℕ → Result (List ℕ) EncodeRefusal → Type 0
EncodedOnFour letters (Ok word) = Encodes (with_inverses four_elements) (four_code 4) letters word
EncodedOnFour letters (Err refusal) = (AllBelow 4 letters → ⊥) × (encode_number refusal ≡ 22)
