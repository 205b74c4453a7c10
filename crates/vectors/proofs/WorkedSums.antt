-- The worked examples, by computation.
use Rattle.std.proofs.Common.{◌≡◌, ℕ, List, [], ◌∷◌, Ok, Err, Result, refl, ap, ◌∙◌, subst}
use Rattle.std.specs.Result.{IsOk}
use Rattle.fields.specs.Modulo.{modulo, stands_in, Listed}
use Rattle.fields.specs.Prime.{PrimeFieldMade}
use Rattle.fields.specs.declared.prime_field.PrimeField.{PrimeField}
use Rattle.fields.specs.declared.cause.FieldCause.{FieldCause}
use Rattle.codes.specs.Code.{Code}
use Rattle.codes.specs.Sums.{syndromes, sum_to, Summed}
use Rattle.codes.specs.declared.cell.Cell.{Cell}
use Rattle.codes.specs.declared.syndromes.SumsRefusal.{SumsRefusal}
use Rattle.vectors.specs.WorkedSums.{six_code, six_cells, book_code, book_cells}

pub seven_listed : Listed 7
unfolding stands_in
seven_listed = refl

pub eleven_listed : Listed 11
unfolding stands_in
eleven_listed = refl

pub made : (p : ℕ) (answer : Result PrimeField FieldCause) → Listed p → PrimeFieldMade p answer → IsOk answer
made p (Ok field) listed is = refl
made p (Err cause) listed is = absurd (is.1 listed)

-- what stands in the buffer after the sums over a field that was made
pub summed : (p : ℕ) (answer : Result PrimeField FieldCause) (field : PrimeField) → PrimeFieldMade p answer → answer ≡ Ok field
    → (code : Code) (cells : List Cell) (before after : List ℕ) (sums : Result (Unit {0}) SumsRefusal) (done : Unit {0})
    → Summed (modulo field.prime) code cells before after sums → sums ≡ Ok done → after ≡ syndromes (modulo p) code cells
summed p answer field m is code cells before after sums done s ended =
    (subst (Summed (modulo field.prime) code cells before after) ended s).1
    ∙ ap (λ (q : ℕ). syndromes (modulo q) code cells) (subst (PrimeFieldMade p) is m).4

pub six : syndromes (modulo 7) six_code six_cells ≡ 5 ∷ 4 ∷ 0 ∷ 5 ∷ []
unfolding syndromes sum_to
six = refl

pub book : syndromes (modulo 11) book_code book_cells ≡ 0 ∷ []
unfolding syndromes sum_to
book = refl
