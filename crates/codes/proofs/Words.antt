-- A word and the cells that it is noted in: letters, blanks and sums.
use Rattle.std.proofs.Common.{◌≡◌, ℕ, zero, suc, ◌+◌, ◌<◌, ◌≤◌, List, [], ◌∷◌, map, length, get_or, Some, None, Option, unwrap_or, sym, refl, ap, ◌∙◌, ap₂, arith}
use Rattle.std.proofs.lemmas.List.{length-map}
use Rattle.algebra.specs.Meaning.{Arithmetic}
use Rattle.algebra.specs.Power.{sum, times_power}
use Rattle.codes.specs.Code.{Code}
use Rattle.codes.specs.Sums.{sum_to, syndrome, add_cell}
use Rattle.codes.specs.Cells.{blank_cell, blanks, one_if_blank, noted}
use Rattle.codes.specs.Codeword.{row_sum}
use Rattle.codes.specs.declared.cell.Cell.{Cell}

abbrev pub letters_of : List Cell → List ℕ
letters_of cells = map (λ cell. unwrap_or cell.letter 0) cells

noted_cell : (letter : Option ℕ) (rest : ℕ) → one_if_blank letter + rest ≡ 0 → Some (unwrap_or letter 0) ≡ letter
noted_cell None rest e = absurd (omega arith)
noted_cell (Some x) rest e = refl

-- cells without a blank are those of a word
pub noted_letters : (cells : List Cell) → blanks cells ≡ 0 → cells ≡ noted (letters_of cells)
noted_letters [] e = refl
noted_letters (cell ∷ cells) e =
    ap₂ (λ (letter : Option ℕ) rest. record { letter = letter } ∷ rest) (sym (noted_cell cell.letter (blanks cells) e)) (noted_letters cells (omega arith))

pub length_noted : (word : List ℕ) → length (noted word) ≡ length word
length_noted word = length-map word _

pub get_or_noted : (word : List ℕ) (j : ℕ) → j < length word → (get_or (noted word) j blank_cell).letter ≡ Some (get_or word j 0)
get_or_noted [] j h = absurd (omega arith)
get_or_noted (x ∷ word) zero h = refl
get_or_noted (x ∷ word) (suc j) h = get_or_noted word j (omega arith)

-- the sum over the cells of a word is the sum over the word
sum_to_noted : (A : Arithmetic) (code : Code) (word : List ℕ) (k j : ℕ) → j ≤ length word → sum_to A code (noted word) k j ≡ sum A j (λ i. times_power A (A.times (get_or word i 0) (get_or code.multipliers i 0)) (get_or code.locators i 0) k)
unfolding sum_to
sum_to_noted A code word k zero h = refl
sum_to_noted A code word k (suc j) h = ap₂ (add_cell A code k j) (get_or_noted word j (omega arith)) (sum_to_noted A code word k j (omega arith))

pub syndrome_noted : (A : Arithmetic) (code : Code) (word : List ℕ) (k : ℕ) → syndrome A code (noted word) k ≡ row_sum A code word k
syndrome_noted A code word k = ap (sum_to A code (noted word) k) (length_noted word) ∙ sum_to_noted A code word k (length word) (omega arith)
