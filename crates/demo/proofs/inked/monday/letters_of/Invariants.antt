use Rattle.std.proofs.Common.{◌≡◌, ℕ, ◌<◌, length, get_or, Some}
use Rattle.codes.specs.Cells.{blank_cell}
use Rattle.demo.proofs.inked.monday.letters_of.Given as goal

abbrev pub invariant-loop-place : goal.invariant-loop-place
invariant-loop-place l = (length l.letters ≡ 12) × ((k : ℕ) → k < l.place → (get_or l.cells k blank_cell).letter ≡ Some (get_or l.letters k 0))
