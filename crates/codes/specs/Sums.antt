-- The sums of a code's rows over the noted cells.
use Rattle.std.specs.Prelude.{◌≡◌, ℕ, zero, suc, List, map, length, Some, None, Ok, Err, Option, Result, slice_index, slice_index_or}
use Rattle.std.specs.List.{range_with_len}
use Rattle.algebra.specs.Meaning.{Arithmetic}
use Rattle.algebra.specs.Power.{times_power}
use Rattle.codes.specs.Code.{Code}
use Rattle.codes.specs.Cells.{blank_cell}
use Rattle.codes.specs.declared.cell.Cell.{Cell}
use Rattle.codes.specs.declared.syndromes.SumsRefusal.{SumsRefusal}
use Rattle.codes.specs.declared.syndromes.SumsRefusal.TheVariants.{WrongLength}

-- cell j's part in the sum of row k, added to the sum so far: letter × multiplier × locator^k, and
-- nothing of a blank
abbrev pub add_cell : Arithmetic → Code → ℕ → ℕ → Option ℕ → ℕ → ℕ
add_cell A code k j None so_far = so_far
add_cell A code k j (Some letter) so_far =
    A.plus so_far (times_power A (A.times letter (slice_index code.multipliers j))
    (slice_index code.locators j) k)

-- the sum of row k over the noted ones among the first j cells
unfoldable pub sum_to : Arithmetic → Code → List Cell → ℕ → ℕ → ℕ
sum_to A code cells k zero = 0
sum_to A code cells k (suc j) =
    add_cell A code k j (slice_index_or cells j blank_cell).letter (sum_to A code cells k j)

-- the sum of row k over the noted cells: the syndrome
abbrev pub syndrome : Arithmetic → Code → List Cell → ℕ → ℕ
syndrome A code cells k = sum_to A code cells k (length cells)

-- the sums of all rows
unfoldable pub syndromes : Arithmetic → Code → List Cell → List ℕ
syndromes A code cells = map (syndrome A code cells) (range_with_len 0 code.rows)

-- the cells, the locators and the multipliers are as many, and the buffer has a place for each row
pub record Lengths (code : Code) (cells : List Cell) (buffer : List ℕ) : Type 0 where
  pub a_multiplier_each : length code.multipliers ≡ length code.locators
  pub a_cell_each : length cells ≡ length code.locators
  pub a_place_each : length buffer ≡ code.rows

abbrev pub sums_number : SumsRefusal → ℕ
sums_number WrongLength = 25

-- The sums stand in the buffer where the lengths are right; else the refusal is 25, and the buffer
-- is as it was.
abbrev pub Summed : Arithmetic → Code → List Cell → List ℕ → List ℕ
    → Result (Unit {0}) SumsRefusal → Type 0
Summed A code cells before after (Ok done) =
    Lengths code cells before × (after ≡ syndromes A code cells)
Summed A code cells before after (Err refusal) =
    (sums_number refusal ≡ 25) × (Lengths code cells before → ⊥) × (after ≡ before)
