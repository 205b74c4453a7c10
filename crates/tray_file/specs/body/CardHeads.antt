-- The five numbers that a card's body begins with.
use Rattle.std.specs.Prelude.{◌≡◌, ℕ, ◌⊎◌, List, [], ◌∷◌, length, Ok, Err, Result}
use Rattle.algebra.specs.Meaning.{Meaning, with_inverses}
use Rattle.algebra.specs.Alphabet.{Alphabet}
use Rattle.codes.specs.Checked.{Sizes}
use Rattle.fields.specs.Modulo.{Listed, modulo}
use Rattle.fields.specs.BinaryArithmetic.{modulo_polynomial}
use Rattle.fields.specs.Binary.{BinaryModulus}
use Rattle.fields.specs.Kinds.{prime_kind, binary_kind}
use Rattle.tray_file.specs.body.NumberLists.{numbers, Begins, NumberMissing}
use Rattle.tray_file.specs.declared.fault.body_fault.BodyFault.{BodyFault}
use Rattle.tray_file.specs.declared.body.card_head.CardHead.{CardHead}
use Rattle.tray_file.specs.declared.body.card_head.ReadHead.{ReadHead}

-- how many numbers a head has
abbrev pub head_count : ℕ
head_count = 5

abbrev pub head_numbers : CardHead → List ℕ
head_numbers head = head.kind ∷ head.origin ∷ head.letters ∷ head.cells ∷ head.rows ∷ []

-- The head that stands first in the body, with the place after it, or one of its numbers is
-- missing.
abbrev pub HeadRead : List ℕ → Result ReadHead BodyFault → Type 0
HeadRead body (Ok read) =
    Begins (head_numbers read.head) body × (read.end ≡ length (numbers (head_numbers read.head)))
HeadRead body (Err fault) = NumberMissing 0 head_count body fault

-- its cells and rows are those that a card may have
abbrev pub HeadShape : CardHead → Type 0
HeadShape head = Sizes head.cells head.rows

-- the field that a head of the prime kind names
pub record PrimeHead (head : CardHead) (m : Meaning) : Type 0 where
  pub kind : head.kind ≡ prime_kind
  pub origin : Listed head.origin
  pub meaning : m ≡ with_inverses (modulo head.origin)

-- the same of the binary kind
pub record BinaryHead (head : CardHead) (m : Meaning) : Type 0 where
  pub kind : head.kind ≡ binary_kind
  pub degree : ℕ
  pub origin : BinaryModulus head.origin degree
  pub meaning : m ≡ with_inverses (modulo_polynomial head.origin degree)

-- the field that a head names
abbrev pub FieldOf : CardHead → Meaning → Type 0
FieldOf head m = PrimeHead head m ⊎ BinaryHead head m

-- over its field the head breaks no rule
pub record HeadFits (m : Meaning) (head : CardHead) : Type 0 where
  pub shape : HeadShape head
  pub alphabet : Alphabet m.arithmetic head.letters
