-- The steps of reading: the modified syndromes, their minimal realisation, and what is found.
use Rattle.std.specs.Prelude.{◌≡◌, ℕ, ◌+◌, ◌-◌, ◌*◌, ◌<◌, ◌≤◌, List, map, length, Some, None, Option, slice_index}
use Rattle.std.specs.List.{range_with_len}
use Rattle.algebra.specs.Meaning.{Arithmetic}
use Rattle.algebra.specs.Polynomial.{act}
use Rattle.algebra.specs.Realisation.{Minimal}
use Rattle.codes.specs.Code.{Code}
use Rattle.codes.specs.Cells.{blanks}
use Rattle.decoding.specs.filling.Fillings.{number_at, annihilator_below}
use Rattle.codes.specs.Sums.{syndromes}
use Rattle.codes.specs.Standings.{AllZero}
use Rattle.codes.specs.declared.cell.Cell.{Cell}
use Rattle.decoding.specs.reading.Reading.{wrong, reach, Near}

-- the annihilator of the blanks' locators applied to the syndromes, from row k on
abbrev pub modified_syndrome : Arithmetic → Code → List Cell → ℕ → ℕ
modified_syndrome A code cells k =
    act A (annihilator_below A code.locators cells (length cells))
    (number_at (syndromes A code cells)) k

-- those that the rows reach: one for each row, less one for each blank
unfoldable pub modified_syndromes : Arithmetic → Code → List Cell → List ℕ
modified_syndromes A code cells =
    map (modified_syndrome A code cells) (range_with_len 0 (code.rows - blanks cells))

-- f, of degree d, is a minimal realisation of the modified syndromes
abbrev pub Locates : Arithmetic → Code → List Cell → ℕ → List ℕ → Type 0
Locates A code cells d f = (w : List ℕ) × Minimal A (modified_syndromes A code cells) d f w

-- what a word is accepted by: its letters are in the alphabet, its sums are 0, and the cells differ
-- from it so little that it is near
pub record Passes (code : Code) (cells : List Cell) (word sums : List ℕ) : Type 0 where
  pub lettered : (j : ℕ) → j < length word → slice_index word j < code.letters
  pub zeros : AllZero sums
  pub close : 2 * wrong cells word + blanks cells ≤ reach code

-- the number of wrong cells of a word that passes, or nothing where it does not
abbrev pub Accepted : Code → List Cell → List ℕ → List ℕ → Option ℕ → Type 0
Accepted code cells word sums (Some count) =
    Passes code cells word sums × (count ≡ wrong cells word)
Accepted code cells word sums None = Passes code cells word sums → ⊥

-- a near codeword with the number of wrong cells, or nothing where no codeword is near
abbrev pub Decoded : Arithmetic → Code → List Cell → List ℕ → Option ℕ → Type 0
Decoded A code cells word (Some count) = Near A code cells word × (count ≡ wrong cells word)
Decoded A code cells word None = (other : List ℕ) → Near A code cells other → ⊥
