-- What a mark is read as.
use Rattle.std.specs.Prelude.{◌≡◌, ℕ, Some, None, Ok, Err, Result}
use Rattle.codes.specs.declared.cell.Cell.{Cell}
use Rattle.tags.specs.marks.Marks.{cell_of_mark}
use Rattle.tags.specs.declared.marks.mark.MarkRefusal.{MarkRefusal}
use Rattle.tags.specs.declared.marks.mark.MarkRefusal.TheVariants.{BadMark}

abbrev pub mark_number : MarkRefusal → ℕ
mark_number BadMark = 28

-- A mark is read as the cell that it stands for. One that stands for none is refused.
abbrev pub MarkRead : ℕ → Result Cell MarkRefusal → Type 0
MarkRead mark (Ok cell) = cell_of_mark mark ≡ Some cell
MarkRead mark (Err BadMark) = (mark_number BadMark ≡ 28) × (cell_of_mark mark ≡ None)
