-- The text that answers a line of standard input, by its word.
use Rattle.std.specs.Prelude.{◌≡◌, ◌≢◌, ◌⊎◌, ℕ, Bool, List, [], ◌∷◌, Ok, Err, Result, codes, Decides}
use Rattle.std.specs.List.{before_first, after_first}
use Rattle.std.specs.Str.{chars}
use Rattle.algebra.specs.Meaning.{Meaning}
use Rattle.fields.specs.Causes.{field_number}
use Rattle.fields.specs.Kinds.{prime_kind, binary_kind}
use Rattle.fields.specs.FieldKinds.{field_kind_number}
use Rattle.fields.specs.Prime.{PrimeFieldMade, prime_meaning}
use Rattle.fields.specs.Binary.{BinaryFieldMade, binary_meaning}
use Rattle.fields.specs.declared.cause.FieldCause.{FieldCause}
use Rattle.fields.specs.declared.kind.FieldKind.{FieldKind}
use Rattle.fields.specs.declared.prime_field.PrimeField.{PrimeField}
use Rattle.fields.specs.declared.binary_field.BinaryField.{BinaryField}
use Rattle.tray_file.specs.fault.Layers.{field_fault_number}
use Rattle.tray_file.specs.declared.fault.field_fault.FieldFault.TheVariants.{NoSuchField}
use Rattle.vectors.specs.Answers.{RefusedText, RefusalShown, taken_text, ArithmeticText, inverses_text, products_text, AdmitsText, SumsAnswered, RealiseAnswered, CardAnswered, EncodeAnswered}
use Rattle.vectors.specs.ReadAnswers.{ReadAnswered}
use Rattle.vectors.specs.LineAnswers.{LineAnswered}
use Rattle.vectors.specs.Parts.{semicolon, space, numbers_in}
use Rattle.vectors.specs.Spaced.{PlainSpaces, spaced_text}

-- what is answered over a field, by the word
abbrev pub FieldCaseAnswered : Meaning → List ℕ → List ℕ → List ℕ → List ℕ → Type 0
FieldCaseAnswered m word numbers rest text =
    ((word ≡ codes "field") × (text ≡ taken_text m.arithmetic))
    ⊎ ((word ≡ codes "arithmetic") × ArithmeticText m.arithmetic numbers text)
    ⊎ ((word ≡ codes "inverses") × (text ≡ inverses_text m))
    ⊎ ((word ≡ codes "products") × (text ≡ products_text m.arithmetic))
    ⊎ ((word ≡ codes "admits") × AdmitsText m.arithmetic text)
    ⊎ ((word ≡ codes "sums") × SumsAnswered m.arithmetic numbers rest text)
    ⊎ ((word ≡ codes "realise") × RealiseAnswered m.arithmetic (numbers_in rest) text)
    ⊎ ((word ≡ codes "card") × CardAnswered m numbers rest text)
    ⊎ ((word ≡ codes "encode") × EncodeAnswered m numbers rest text)
    ⊎ ((word ≡ codes "read") × ReadAnswered m numbers rest text)

-- what is answered over the field that was made, or the maker's refusal
abbrev pub MadeAnswered : {F : Type 0} → (F → Meaning) → Result F FieldCause → List ℕ → List ℕ
    → List ℕ → List ℕ → Type 0
MadeAnswered meaning (Ok field) word numbers rest text =
    FieldCaseAnswered (meaning field) word numbers rest text
MadeAnswered meaning (Err cause) word numbers rest text = RefusedText (field_number cause) text

-- the field is made by its kind; no kind has another number
abbrev pub KindAnswered : ℕ → ℕ → List ℕ → List ℕ → List ℕ → List ℕ → Type 0
KindAnswered kind origin word numbers rest text =
    ((kind ≡ prime_kind)
    × ((made : Result PrimeField FieldCause) × PrimeFieldMade origin made
    × MadeAnswered prime_meaning made word numbers rest text))
    ⊎ ((kind ≡ binary_kind)
    × ((made : Result BinaryField FieldCause) × BinaryFieldMade origin made
    × MadeAnswered binary_meaning made word numbers rest text))
    ⊎ (((other : FieldKind) → field_kind_number other ≢ kind)
    × RefusedText (field_fault_number NoSuchField) text)

-- of a text of a field's kind, what it is made from, and further numbers; the rest
abbrev pub FieldAnswered : List ℕ → List ℕ → List ℕ → Type 0
FieldAnswered word argument text =
    (kind : ℕ) × (origin : ℕ) × (numbers : List ℕ)
    × (numbers_in (before_first semicolon argument) ≡ kind ∷ origin ∷ numbers)
    × KindAnswered kind origin word numbers (after_first semicolon argument) text

-- of a refusal's number
abbrev pub RefusalAnswered : List ℕ → List ℕ → Type 0
RefusalAnswered argument text =
    (number : ℕ) × (numbers_in argument ≡ number ∷ []) × RefusalShown number text

abbrev pub WordAnswered : List ℕ → List ℕ → List ℕ → Type 0
WordAnswered word argument text =
    ((word ≡ codes "line") × LineAnswered argument text)
    ⊎ ((word ≡ codes "refusal") × RefusalAnswered argument text)
    ⊎ ((word ≢ codes "line") × (word ≢ codes "refusal") × FieldAnswered word argument text)

-- a case is a word, a space and its argument
abbrev pub Answered : List ℕ → List ℕ → Type 0
Answered line text = WordAnswered (before_first space line) (after_first space line) text

-- A line that has no white space but spaces may be answered as it stands. Any line is answered with
-- its white space made single spaces, where that of marks counts.
abbrev pub LineAnswer : List ℕ → List ℕ → Type 0
LineAnswer line text =
    (PlainSpaces (chars line) × Answered line text)
    ⊎ ((marks : Bool) × Decides marks (before_first space line ≡ codes "line")
    × Answered (spaced_text marks (chars line)) text)
