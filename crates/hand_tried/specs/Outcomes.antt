-- What a call can only answer in a given case, and what it can only leave in its buffers.
use Rattle.std.specs.Prelude.{◌≡◌, ℕ, List, length, Ok, Err}
use Rattle.algebra.specs.Limits.{coefficients}
use Rattle.algebra.specs.Meaning.{Arithmetic, Meaning}
use Rattle.codes.specs.Code.{Code}
use Rattle.codes.specs.Checked.{Checked}
use Rattle.codes.specs.Sums.{Summed}
use Rattle.codes.specs.Standings.{Lettered}
use Rattle.codes.specs.declared.cell.Cell.{Cell}
use Rattle.minimal_pairs.specs.MinimalPair.{Realised}
use Rattle.decoding.specs.encoding.Encodings.{Encoded}
use Rattle.decoding.specs.reading.Reading.{Reading, read_number}
use Rattle.decoding.specs.declared.reading.read_answer.ReadRefusal.{ReadRefusal}

-- Whatever buffer of the right length a call is lent, this answer and this buffer after it meet the
-- relation that its contract names, and no others do.
pub record Outcome {Buffer Answer : Type 0} (room : Buffer → Type 0)
    (meets : Buffer → Buffer → Answer → Type 0) (left : Buffer → Buffer)
    (answer : Answer) : Type 0 where
  pub this : (before : Buffer) → room before → meets before (left before) answer
  pub only : (before : Buffer) → room before
      → (after : Buffer) (other : Answer) → meets before after other
      → (after ≡ left before) × (other ≡ answer)

-- a buffer of n numbers
abbrev pub Places : ℕ → List ℕ → Type 0
Places n buffer = length buffer ≡ n

-- the card is checked, and the cells may stand on a tag of it
pub record OnTag (m : Meaning) (code : Code) (cells : List Cell) : Type 0 where
  pub checked : Checked m code
  pub long : length cells ≡ length code.locators
  pub lettered : Lettered code.letters cells

-- a read of the cells shows the word, with these numbers of wrong and of blank cells
abbrev pub Shows : Meaning → Code → List Cell → List ℕ → ℕ → ℕ → Type 0
Shows m code cells word wrong blank =
    OnTag m code cells × Outcome (Places (length code.locators)) (Reading m.arithmetic code cells)
    (λ before. word) (Ok (record { wrong = wrong; blank = blank }))

-- a read of the cells is refused with this number, and the buffer is as it was
abbrev pub Refuses : Meaning → Code → List Cell → ℕ → Type 0
Refuses m code cells number =
    OnTag m code cells
    × ((refusal : ReadRefusal) × (read_number refusal ≡ number)
    × Outcome (Places (length code.locators)) (Reading m.arithmetic code cells)
    (λ before. before) (Err refusal))

-- the sums over the noted cells
abbrev pub SumsTo : Arithmetic → Code → List Cell → List ℕ → Type 0
SumsTo A code cells sums = Outcome (Places code.rows) (Summed A code cells) (λ before. sums) (Ok tt)

-- the data are encoded as the word
abbrev pub EncodesTo : Meaning → Code → List ℕ → List ℕ → Type 0
EncodesTo m code letters word =
    Outcome (Places (length code.locators)) (Encoded m code letters) (λ before. word) (Ok tt)

-- the sequence has the pair f, w, of degree d
abbrev pub RealisesTo : Arithmetic → List ℕ → ℕ → List ℕ → List ℕ → Type 0
RealisesTo A s d f w =
    Outcome {Buffer = List ℕ × List ℕ}
    (λ before. Places coefficients before.0 × Places coefficients before.1)
    (λ before after. Realised A s before.0 before.1 after.0 after.1) (λ before. (f, w)) (Ok d)
