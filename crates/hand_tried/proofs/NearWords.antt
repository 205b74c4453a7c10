-- Near words and lettered cells, by computed tests.
use Rattle.std.proofs.Common.{◌≡◌, ℕ, zero, suc, ◌+◌, ◌*◌, ◌≤◌, Bool, true, ◌&&◌, ltb, List, [], ◌∷◌, length, replicate, Some, None, Option, sym, subst, arith}
use lib.ListN.{length-replicate, get_or-replicate}
use Rattle.std.proofs.lemmas.Bool.{ltb-true, and_parts}
use Rattle.algebra.specs.Meaning.{Arithmetic}
use Rattle.codes.specs.Code.{Code}
use Rattle.codes.specs.Cells.{blanks, noted}
use Rattle.codes.specs.Sums.{syndromes}
use Rattle.codes.specs.Standings.{BelowIfNoted, Lettered, AllZero}
use Rattle.codes.specs.declared.cell.Cell.{Cell}
use Rattle.codes.proofs.Codewords.{codeword_from_noted}
use Rattle.decoding.specs.reading.Reading.{wrong, reach, Near}

-- whether a noted letter is below the alphabet size
abbrev below_if_noted : ℕ → Option ℕ → Bool
below_if_noted letters None = true
below_if_noted letters (Some letter) = ltb letter letters

abbrev pub all_lettered : ℕ → List Cell → Bool
all_lettered letters [] = true
all_lettered letters (cell ∷ cells) = below_if_noted letters cell.letter && all_lettered letters cells

below : (letters : ℕ) (letter : Option ℕ) → below_if_noted letters letter ≡ true → BelowIfNoted letters letter
below letters None t = tt
below letters (Some letter) t = ltb-true letter letters t

pub lettered_by : (letters : ℕ) (cells : List Cell) → all_lettered letters cells ≡ true → Lettered letters cells
lettered_by letters [] t j h = absurd (omega arith)
lettered_by letters (cell ∷ cells) t zero h = below letters cell.letter (and_parts _ _ t).0
lettered_by letters (cell ∷ cells) t (suc j) h = lettered_by letters cells (and_parts _ _ t).1 j (omega arith)

all_zero : (n : ℕ) → AllZero (replicate n 0)
all_zero n k h = get_or-replicate n k 0 0 (omega (arith, length-replicate {A = ℕ} n 0))

pub near_by : (A : Arithmetic) (code : Code) (cells : List Cell) (word : List ℕ) → length (noted word) ≡ length code.locators → all_lettered code.letters (noted word) ≡ true →
    syndromes A code (noted word) ≡ replicate code.rows 0 → 2 * wrong cells word + blanks cells ≤ reach code → Near A code cells word
near_by A code cells word long letters zeros close = record {
  codeword = codeword_from_noted A code word long (lettered_by code.letters (noted word) letters) (subst AllZero (sym zeros) (all_zero code.rows));
  close = close;
}
