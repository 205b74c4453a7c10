-- Elements and letters: the numbers below a size.
use Rattle.std.specs.Prelude.{ℕ, ◌<◌, List, length, slice_index}

abbrev pub AllBelow : ℕ → List ℕ → Type 0
AllBelow size numbers = (j : ℕ) → j < length numbers → slice_index numbers j < size
