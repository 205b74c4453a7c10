-- The text that answers a case.
use Rattle.std.specs.Prelude.{◌≡◌, ◌⊎◌, ℕ, zero, suc, ◌+◌, List, [], ◌∷◌, ◌++◌, Ok, Err, Result, length, replicate, codes, decimal, flat_map, ◌≢◌, All}
use Rattle.std.specs.List.{range_with_len}
use Rattle.algebra.specs.Meaning.{Arithmetic, Meaning}
use Rattle.algebra.specs.Alphabet.{Alphabet}
use Rattle.algebra.specs.Limits.{coefficients}
use Rattle.codes.specs.Code.{Code}
use Rattle.codes.specs.Checked.{Checked}
use Rattle.codes.specs.Cards.{CardRefused, card_number}
use Rattle.codes.specs.declared.card_cause.CardCause.{CardCause}
use Rattle.codes.specs.Sums.{Summed, sums_number}
use Rattle.codes.specs.declared.syndromes.SumsRefusal.{SumsRefusal}
use Rattle.decoding.specs.encoding.Encodings.{Encoded, encode_number}
use Rattle.decoding.specs.declared.encoding.encode_refusal.EncodeRefusal.{EncodeRefusal}
use Rattle.codes.specs.WordText.{letter_text, word_text}
use Rattle.minimal_pairs.specs.MinimalPair.{Realised, realise_number}
use Rattle.minimal_pairs.specs.declared.minimal_pair.RealiseRefusal.{RealiseRefusal}
use Rattle.vectors.specs.Degrees.{UpToDegree}
use Rattle.vectors.specs.Parts.{part, numbers_in, cells_in, code_in}
use Rattle.vectors.specs.InverseText.{inverse_text}
use Rattle.vectors.specs.Fold.{folded}

-- the refusal's number, and its word
abbrev pub RefusedText : ℕ → List ℕ → Type 0
RefusedText number text =
    (word : List ℕ) × (text ≡ codes "refused " ++ (decimal number ++ (codes " " ++ word)))

-- the numbers of all refusals
abbrev pub refusal_numbers : List ℕ
refusal_numbers =
    10 ∷ 11 ∷ 12 ∷ 13 ∷ 14 ∷ 15 ∷ 16 ∷ 17 ∷ 18 ∷ 21 ∷ 22 ∷ 23 ∷ 24
    ∷ 25 ∷ 26 ∷ 28 ∷ 31 ∷ 32 ∷ 33 ∷ 34 ∷ 35 ∷ 36 ∷ 37 ∷ 38 ∷ []

-- the refusal with this number, or that there is none
abbrev pub RefusalShown : ℕ → List ℕ → Type 0
RefusalShown number text =
    RefusedText number text
    ⊎ (All (λ n. number ≢ n) refusal_numbers × (text ≡ codes "no refusal has this number"))

abbrev pub taken_text : Arithmetic → List ℕ
taken_text A = codes "taken, " ++ (decimal A.size ++ codes " elements")

-- of two numbers the sum, the difference and the product
abbrev pub ArithmeticText : Arithmetic → List ℕ → List ℕ → Type 0
ArithmeticText A numbers text =
    (a : ℕ) × (b : ℕ) × (numbers ≡ a ∷ b ∷ [])
    × (text ≡ decimal (A.plus a b)
    ++ (codes " " ++ (decimal (A.minus a b) ++ (codes " " ++ decimal (A.times a b)))))

-- the inverses of 0 to q
abbrev pub inverses_text : Meaning → List ℕ
inverses_text meaning =
    codes "inverses"
    ++ flat_map (λ a. inverse_text (meaning.inverse a))
    (range_with_len 0 (meaning.arithmetic.size + 1))

-- for each element its products in one number
abbrev pub products_text : Arithmetic → List ℕ
products_text A =
    codes "products" ++ flat_map (λ a. letter_text (folded A a A.size)) (range_with_len 0 A.size)

-- the alphabet sizes below n, in order
unfoldable pub AlphabetSizes : Arithmetic → ℕ → List ℕ → Type 0
AlphabetSizes A zero sizes = sizes ≡ []
AlphabetSizes A (suc n) sizes =
    (smaller : List ℕ) × AlphabetSizes A n smaller
    × ((Alphabet A n × (sizes ≡ smaller ++ n ∷ [])) ⊎ ((Alphabet A n → ⊥) × (sizes ≡ smaller)))

-- the alphabet sizes from 0 to q; above q there are none
abbrev pub AdmitsText : Arithmetic → List ℕ → Type 0
AdmitsText A text =
    (sizes : List ℕ) × AlphabetSizes A (A.size + 1) sizes
    × (text ≡ codes "admits" ++ word_text sizes)

abbrev pub SumsText : Result (Unit {0}) SumsRefusal → List ℕ → List ℕ → Type 0
SumsText (Ok done) sums text = text ≡ codes "sums" ++ word_text sums
SumsText (Err refusal) sums text = RefusedText (sums_number refusal) text

-- of the rows, and a text of locators; multipliers; cells: the sums in a buffer of so many rows, or
-- the refusal
abbrev pub SumsAnswered : Arithmetic → List ℕ → List ℕ → List ℕ → Type 0
SumsAnswered A numbers rest text =
    (rows : ℕ) × (sums : List ℕ) × (answer : Result (Unit {0}) SumsRefusal) × (numbers ≡ rows ∷ [])
    × Summed A (code_in A.size rows rest) (cells_in (part 2 rest)) (replicate rows 0) sums answer
    × SumsText answer sums text

abbrev pub RealiseText : Result ℕ RealiseRefusal → List ℕ → List ℕ → List ℕ → Type 0
RealiseText (Ok degree) f w text =
    (f_shown : List ℕ) × (w_shown : List ℕ) × UpToDegree f f_shown × UpToDegree w w_shown
    × (text ≡ codes "degree "
    ++ (decimal degree ++ (codes ", f"
    ++ (word_text f_shown ++ (codes ", w" ++ word_text w_shown)))))
RealiseText (Err refusal) f w text = RefusedText (realise_number refusal) text

-- of a sequence the minimal pair, each polynomial up to its degree, or the refusal
abbrev pub RealiseAnswered : Arithmetic → List ℕ → List ℕ → Type 0
RealiseAnswered A sequence text =
    (f : List ℕ) × (w : List ℕ) × (answer : Result ℕ RealiseRefusal)
    × Realised A sequence (replicate coefficients 0) (replicate coefficients 0) f w answer
    × RealiseText answer f w text

-- the first rule that the code breaks is told
abbrev pub CardRefusedText : Meaning → Code → List ℕ → Type 0
CardRefusedText m code text =
    (cause : CardCause) × CardRefused m code cause × RefusedText (card_number cause) text

-- the code is checked, or the first rule that it breaks is told
abbrev pub CardText : Meaning → Code → List ℕ → Type 0
CardText m code text =
    (Checked m code × (text ≡ codes "card granted")) ⊎ CardRefusedText m code text

-- of the letters, the rows, and a text of locators; multipliers
abbrev pub CardAnswered : Meaning → List ℕ → List ℕ → List ℕ → Type 0
CardAnswered m numbers rest text =
    (letters : ℕ) × (rows : ℕ) × (numbers ≡ letters ∷ rows ∷ [])
    × CardText m (code_in letters rows rest) text

abbrev pub EncodeText : Result (Unit {0}) EncodeRefusal → List ℕ → List ℕ → Type 0
EncodeText (Ok done) word text = text ≡ codes "word" ++ word_text word
EncodeText (Err refusal) word text = RefusedText (encode_number refusal) text

-- the encoding of the data in a buffer of a cell for each locator, or the refusal
abbrev pub EncodedText : Meaning → Code → List ℕ → List ℕ → Type 0
EncodedText m code letters text =
    (word : List ℕ) × (answer : Result (Unit {0}) EncodeRefusal)
    × Encoded m code letters (replicate (length code.locators) 0) word answer
    × EncodeText answer word text

-- of a code, and data: the code is checked and the data are encoded, or the first rule that it
-- breaks is told
abbrev pub CardEncodes : Meaning → Code → List ℕ → List ℕ → Type 0
CardEncodes m code letters text =
    (Checked m code × EncodedText m code letters text) ⊎ CardRefusedText m code text

-- of the letters, the rows, and a text of locators; multipliers; data
abbrev pub EncodeAnswered : Meaning → List ℕ → List ℕ → List ℕ → Type 0
EncodeAnswered m numbers rest text =
    (letters : ℕ) × (rows : ℕ) × (numbers ≡ letters ∷ rows ∷ [])
    × CardEncodes m (code_in letters rows rest) (numbers_in (part 2 rest)) text
