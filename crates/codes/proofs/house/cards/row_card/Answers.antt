use Rattle.std.proofs.Common.{◌+◌, ◌-◌, ◌^◌, ◌<◌, ◌≤◌, arith}
use Rattle.std.proofs.lemmas.List.FromFn.{length-range_with_len, get_or-range_with_len}
use Rattle.algebra.specs.Meaning.{Meaning}
use Rattle.algebra.specs.Limits.{largest_cells}
use Rattle.codes.specs.Checked.{Checked}
use Rattle.codes.specs.house.HouseRows.{row_code, rule_first}
use Rattle.codes.specs.declared.house.rows.HouseRow.{HouseRow}
use Rattle.codes.proofs.house.cards.row_card.Goals as goal

few_cells : (m : Meaning) (row : HouseRow) → Checked m (row_code row) → row.cells ≤ largest_cells
few_cells m row checked = omega (arith, checked.shape.sizes.most_cells, length-range_with_len (rule_first row.locators) row.cells)

-- the last locator is an element, so it is small
small_locators : (m : Meaning) (row : HouseRow) → Checked m (row_code row) → rule_first row.locators + row.cells < 2 ^ 32
small_locators m row checked =
    let n = row.cells in
    let two = checked.shape.sizes.two_cells in
    let long = length-range_with_len (rule_first row.locators) n in
    omega (arith, get_or-range_with_len (rule_first row.locators) n (n - 1) 0 (omega arith), checked.locators.element (n - 1) (omega arith), checked.laws.bounded)

pub counting_from-locators-requires : goal.counting_from-locators-requires
counting_from-locators-requires g c =
    let checked = c.requires.checked in
    record { few = few_cells _ c.args.row checked; small = omega (arith, c.first.ensures, small_locators _ c.args.row checked) }
