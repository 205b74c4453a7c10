-- Lists of numbers whose coefficients are elements.
use Rattle.std.proofs.Common.{ℕ, List, length, get_or, ⊎_elim, arith}
use Rattle.std.proofs.lemmas.List.{get_or_past}
use Rattle.std.proofs.lemmas.Bool.{cases_lt}
use Rattle.algebra.specs.Meaning.{Arithmetic}
use Rattle.algebra.specs.Laws.{Total}
use Rattle.algebra.specs.Polynomial.{AllElements}
use Rattle.algebra.specs.Theorems.{Elements}

pub all_elements : {A : Arithmetic} → Total A → (s : List ℕ) → Elements A (length s) (λ i. get_or s i 0) → AllElements A s
all_elements total s h i = ⊎_elim (h i) (λ past. let zero = get_or_past s i 0 past in omega (arith, total.smallest)) (cases_lt i (length s))
