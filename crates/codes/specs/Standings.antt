-- What is said of a line of cells.
use Rattle.std.specs.Prelude.{◌≡◌, ℕ, ◌<◌, List, length, Some, None, Ok, Err, Option, Result, slice_index, slice_index_or}
use Rattle.algebra.specs.Meaning.{Arithmetic}
use Rattle.codes.specs.Code.{Code}
use Rattle.codes.specs.Sums.{syndromes, Lengths, sums_number}
use Rattle.codes.specs.Cells.{blank_cell, blanks, noted}
use Rattle.codes.specs.Codeword as codeword
use Rattle.codes.specs.declared.cell.Cell.{Cell}
use Rattle.codes.specs.declared.syndromes.SumsRefusal.{SumsRefusal}
use Rattle.codes.specs.declared.standing.Standing.{Standing}
use Rattle.codes.specs.declared.standing.Standing.TheVariants.{Codeword, Unfinished, Damaged}

-- A codeword is a line without blanks whose letters are one; a line with blanks is unfinished; any
-- other is damaged.
abbrev pub Judged : Arithmetic → Code → List Cell → Standing → Type 0
Judged A code cells Codeword =
    (word : List ℕ) × (cells ≡ noted word) × codeword.Codeword A code word
Judged A code cells (Unfinished count) = (count ≡ blanks cells) × (0 < count)
Judged A code cells Damaged =
    (blanks cells ≡ 0)
    × ((word : List ℕ) → cells ≡ noted word → codeword.Codeword A code word → ⊥)

-- The sums stand in the buffer beside the standing where the lengths are right; else the refusal is
-- 25, and the buffer is as it was.
abbrev pub Judgement : Arithmetic → Code → List Cell → List ℕ → List ℕ
    → Result Standing SumsRefusal → Type 0
Judgement A code cells before after (Ok standing) =
    Lengths code cells before × (after ≡ syndromes A code cells) × Judged A code cells standing
Judgement A code cells before after (Err refusal) =
    (sums_number refusal ≡ 25) × (Lengths code cells before → ⊥) × (after ≡ before)

-- every noted letter is below the alphabet size
abbrev pub BelowIfNoted : ℕ → Option ℕ → Type 0
BelowIfNoted letters None = Unit {0}
BelowIfNoted letters (Some letter) = letter < letters

abbrev pub Lettered : ℕ → List Cell → Type 0
Lettered letters cells =
    (j : ℕ) → j < length cells → BelowIfNoted letters (slice_index_or cells j blank_cell).letter

abbrev pub AllZero : List ℕ → Type 0
AllZero numbers = (k : ℕ) → k < length numbers → slice_index numbers k ≡ 0
