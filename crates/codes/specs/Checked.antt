-- What a checked card keeps.
use Rattle.std.specs.Prelude.{◌≡◌, ℕ, ◌<◌, ◌≤◌, List, length, slice_index}
use Rattle.algebra.specs.Meaning.{Meaning}
use Rattle.algebra.specs.Laws.{Laws}
use Rattle.algebra.specs.Alphabet.{Alphabet}
use Rattle.algebra.specs.Theorems.{Locators, Multipliers}
use Rattle.algebra.specs.Limits.{largest_cells, largest_rows}
use Rattle.codes.specs.Code.{Code}

-- n is from 2 to the largest, and r is from 1 to the largest and below n
pub record Sizes (cells rows : ℕ) : Type 0 where
  pub two_cells : 2 ≤ cells
  pub most_cells : cells ≤ largest_cells
  pub one_row : 1 ≤ rows
  pub most_rows : rows ≤ largest_rows
  pub fewer_rows : rows < cells

-- the sizes fit, and there are as many multipliers as locators
pub record Shape (code : Code) : Type 0 where
  pub sizes : Sizes (length code.locators) code.rows
  pub a_multiplier_each : length code.multipliers ≡ length code.locators

-- the locators are distinct elements
abbrev pub LocatorsFit : Meaning → List ℕ → Type 0
LocatorsFit m locators = Locators m.arithmetic (length locators) (λ j. slice_index locators j)

-- the multipliers are elements other than 0
abbrev pub MultipliersFit : Meaning → List ℕ → Type 0
MultipliersFit m multipliers =
    Multipliers m.arithmetic (length multipliers) (λ j. slice_index multipliers j)

-- What a checked card keeps: its field's laws and every rule of a card.
pub record Checked (m : Meaning) (code : Code) : Type 0 where
  pub laws : Laws m
  pub shape : Shape code
  pub alphabet : Alphabet m.arithmetic code.letters
  pub locators : LocatorsFit m code.locators
  pub multipliers : MultipliersFit m code.multipliers
