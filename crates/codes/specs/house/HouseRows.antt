-- The house cards: the table of their rows, and the code that a row stands for.
use Rattle.std.specs.Prelude.{◌≡◌, ℕ, ◌-◌, ◌≤◌, List, [], ◌∷◌, length, replicate, Ok, Err, Result, slice_index_or}
use Rattle.std.specs.List.{range_with_len}
use Rattle.codes.specs.Code.{Code}
use Rattle.fields.specs.declared.kind.FieldKind.TheVariants.{Prime, Binary}
use Rattle.codes.specs.declared.house.rows.HouseRow.{HouseRow}
use Rattle.codes.specs.declared.house.rows.HouseRefusal.{HouseRefusal}
use Rattle.codes.specs.declared.house.rows.HouseRefusal.TheVariants.{NoHouseCard}
use Rattle.codes.specs.declared.house.rows.LocatorRule.{LocatorRule}
use Rattle.codes.specs.declared.house.rows.LocatorRule.TheVariants.{CountingFrom}
use Rattle.codes.specs.declared.house.rows.MultiplierRule.{MultiplierRule}
use Rattle.codes.specs.declared.house.rows.MultiplierRule.TheVariants.{Ones, AsLocators}

abbrev pub engraved : HouseRow
engraved =
    record {
      kind = Binary;
      origin = 285;
      letters = 256;
      cells = 64;
      rows = 16;
      locators = CountingFrom 0;
      multipliers = Ones;
    }

abbrev pub inked : HouseRow
inked =
    record {
      kind = Prime;
      origin = 37;
      letters = 37;
      cells = 20;
      rows = 8;
      locators = CountingFrom 0;
      multipliers = Ones;
    }

abbrev pub punched : HouseRow
punched =
    record {
      kind = Binary;
      origin = 67;
      letters = 2;
      cells = 63;
      rows = 8;
      locators = CountingFrom 1;
      multipliers = AsLocators;
    }

-- the rows by number, from 1 on
abbrev pub house_rows : List HouseRow
house_rows = engraved ∷ inked ∷ punched ∷ []

abbrev pub IsHouseNumber : ℕ → Type 0
IsHouseNumber number = (1 ≤ number) × (number ≤ length house_rows)

abbrev pub house_row : ℕ → HouseRow
house_row number = slice_index_or house_rows (number - 1) engraved

abbrev pub house_number : HouseRefusal → ℕ
house_number NoHouseCard = 18

-- The row with this number; any other number is refused with 18.
abbrev pub HouseRowFound : ℕ → Result HouseRow HouseRefusal → Type 0
HouseRowFound number (Ok row) = IsHouseNumber number × (row ≡ house_row number)
HouseRowFound number (Err refusal) = (house_number refusal ≡ 18) × (IsHouseNumber number → ⊥)

-- the locator of the first cell by a rule
abbrev pub rule_first : LocatorRule → ℕ
rule_first (CountingFrom a) = a

-- the n locators by a rule, each one more than the one before
abbrev pub rule_locators : LocatorRule → ℕ → List ℕ
rule_locators rule n = range_with_len (rule_first rule) n

-- the n multipliers by a rule, where the locators are given
abbrev pub rule_multipliers : MultiplierRule → ℕ → List ℕ → List ℕ
rule_multipliers Ones n locators = replicate n 1
rule_multipliers AsLocators n locators = locators

-- the plain values of a row
abbrev pub row_code : HouseRow → Code
row_code row = record {
  letters = row.letters;
  rows = row.rows;
  locators = rule_locators row.locators row.cells;
  multipliers = rule_multipliers row.multipliers row.cells (rule_locators row.locators row.cells);
}
