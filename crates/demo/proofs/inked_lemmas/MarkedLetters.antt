-- A mark that stands for a noted cell stands for a letter of the alphabet.
use Rattle.std.proofs.Common.{◌≡◌, ℕ, suc, ◌<◌, Bool, true, false, cond, ltb, List, get_or, Some, None, Option, refl, ap, ◌∙◌, arith}
use Rattle.std.proofs.lemmas.Bool.{ltb-true}
use Rattle.std.proofs.lemmas.List.{length-map, get_or-map}
use Rattle.codes.specs.Cells.{blank_cell, noted, noted_cell}
use Rattle.codes.specs.declared.cell.Cell.{Cell}
use Rattle.fields.specs.Elements.{AllBelow}
use Rattle.tags.specs.marks.Marks.{cell_of_mark}
use Rattle.tags.specs.marks.Lines.{lettered_cell, lettered_option, Marked}

-- one more than the letter of a noted cell, and 0 else
more : Option ℕ → ℕ
more None = 0
more (Some x) = suc x

telling : Option Cell → ℕ
telling None = 0
telling (Some cell) = more cell.letter

tested : (letter q x : ℕ) (b : Bool) → ltb letter q ≡ b → cond b (Some (noted_cell letter)) None ≡ Some (noted_cell x) → x < q
unfolding telling more
tested letter q x true passes e = omega (arith, ltb-true letter q passes, ap telling e)
tested letter q x false fails e = omega (arith, ap telling e)

below : (q x : ℕ) (letter : Option ℕ) → lettered_cell q letter (record { letter = letter }) ≡ Some (noted_cell x) → x < q
unfolding telling more
below q x None e = omega (arith, ap telling e)
below q x (Some letter) e = tested letter q x (ltb letter q) refl e

option_below : (q x : ℕ) (o : Option Cell) → lettered_option q o ≡ Some (noted_cell x) → x < q
unfolding telling more
option_below q x None e = omega (arith, ap telling e)
option_below q x (Some cell) e = below q x cell.letter e

pub marked_below : (q : ℕ) (marks letters : List ℕ) → Marked q marks (noted letters) → AllBelow q letters
marked_below q marks letters marked j h =
    option_below q (get_or letters j 0) (cell_of_mark (get_or marks j 0))
    (marked.each j (omega (arith, marked.long, length-map letters noted_cell)) ∙ ap Some (get_or-map noted_cell letters j 0 blank_cell h))
