-- Encoding: the codeword that begins with given data letters.
use Rattle.std.specs.Prelude.{◌≡◌, ℕ, ◌+◌, ◌<◌, ◌≤◌, List, ◌++◌, length, take, replicate, Ok, Err, Result}
use Rattle.algebra.specs.Meaning.{Meaning}
use Rattle.fields.specs.Elements.{AllBelow}
use Rattle.codes.specs.Code.{Code}
use Rattle.codes.specs.Cells.{blank_cell, noted}
use Rattle.codes.specs.Codeword.{Codeword}
use Rattle.codes.specs.Sums.{syndromes}
use Rattle.decoding.specs.filling.Fillings.{filled}
use Rattle.codes.specs.declared.cell.Cell.{Cell}
use Rattle.decoding.specs.declared.encoding.encode_refusal.EncodeRefusal.{EncodeRefusal}
use Rattle.decoding.specs.declared.encoding.encode_refusal.EncodeRefusal.TheVariants.{PartAlphabet, WrongLength, NoLetter}

-- the data in the first cells, and a blank for each row after them
abbrev pub data_cells : Code → List ℕ → List Cell
data_cells code letters = noted letters ++ replicate code.rows blank_cell

-- the letters of these cells, filled
unfoldable pub encoding : Meaning → Code → List ℕ → List ℕ
encoding m code letters =
    filled m code (data_cells code letters) (syndromes m.arithmetic code (data_cells code letters))

-- a letter of data for each cell that is no check cell, and a place in the buffer for each cell
pub record EncodeLengths (code : Code) (letters buffer : List ℕ) : Type 0 where
  pub data_each : length letters + code.rows ≡ length code.locators
  pub a_place_each : length buffer ≡ length code.locators

-- a word begins with the data
abbrev pub Begins : List ℕ → List ℕ → Type 0
Begins letters word = take (length letters) word ≡ letters

abbrev pub encode_number : EncodeRefusal → ℕ
encode_number PartAlphabet = 26
encode_number WrongLength = 25
encode_number NoLetter = 22

-- The first that applies, in this order: 26 where the letters are a part of the elements only, 25
-- for a wrong length, 22 for a number that is no letter.
abbrev pub EncodeRefused : Meaning → Code → List ℕ → List ℕ → EncodeRefusal → Type 0
EncodeRefused m code letters buffer PartAlphabet =
    (encode_number PartAlphabet ≡ 26) × (code.letters < m.arithmetic.size)
EncodeRefused m code letters buffer WrongLength =
    (encode_number WrongLength ≡ 25)
    × (m.arithmetic.size ≤ code.letters) × (EncodeLengths code letters buffer → ⊥)
EncodeRefused m code letters buffer NoLetter =
    (encode_number NoLetter ≡ 22)
    × (m.arithmetic.size ≤ code.letters) × EncodeLengths code letters buffer
    × (AllBelow code.letters letters → ⊥)

-- The only codeword that begins with the data.
pub record Encodes (m : Meaning) (code : Code) (letters word : List ℕ) : Type 0 where
  pub codeword : Codeword m.arithmetic code word
  pub begins : Begins letters word
  pub only : (other : List ℕ) → Codeword m.arithmetic code other
      → Begins letters other → other ≡ word

-- The buffer holds the only codeword that begins with the data, or a refusal is given in its case
-- and the buffer is as it was.
abbrev pub Encoded : Meaning → Code → List ℕ → List ℕ → List ℕ
    → Result (Unit {0}) EncodeRefusal → Type 0
Encoded m code letters before after (Ok done) =
    (m.arithmetic.size ≤ code.letters) × EncodeLengths code letters before
    × AllBelow code.letters letters × (after ≡ encoding m code letters)
    × Encodes m code letters after
Encoded m code letters before after (Err refusal) =
    EncodeRefused m code letters before refusal × (after ≡ before)
