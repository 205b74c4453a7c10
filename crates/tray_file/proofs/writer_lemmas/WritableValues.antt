-- Values that can be written as numbers.
use Rattle.std.proofs.Common.{◌≡◌, ℕ, suc, ◌≤◌, List, [], ◌∷◌, ◌++◌, map, length, Some, None, Ok, Err, Option, Result, sym, refl, ap, ◌∙◌, subst, ap₂, arith}
use Rattle.std.proofs.lemmas.List.{append-nil}
use Rattle.algebra.specs.Limits.{largest_cells, largest_size}
use Rattle.algebra.specs.Meaning.{Meaning}
use Rattle.codes.specs.Code.{Code}
use Rattle.codes.specs.Checked.{Checked}
use Rattle.codes.specs.Standings.{Lettered, BelowIfNoted}
use Rattle.codes.specs.declared.cell.Cell.{Cell}
use Rattle.tray_file.specs.number.Numbers.{largest_number}
use Rattle.tray_file.specs.body.NumberLists.{numbers, Small}
use Rattle.tray_file.specs.body.CardBodies.{card_body}
use Rattle.tray_file.specs.body.CellBodies.{cell_number, letter_number, cells_body}
use Rattle.tray_file.proofs.body_lemmas.NumberLists.{numbers_append, small_below}
use Rattle.tray_file.specs.reader.RecordKinds.{kind_number}
use Rattle.tray_file.specs.declared.reader.kind.Kind.TheVariants.{Cells}
use Rattle.tray_file.specs.writer.Writing.{NumberRecord, RecordWritten}
use Rattle.tray_file.specs.declared.writer.record_writing.BodyNumbers.{BodyNumbers}
use Rattle.tray_file.specs.writer.Writers.{Writable, CellsWritten}
use Rattle.tray_file.specs.declared.writer.write_refusal.WriteRefusal.{WriteRefusal}
use Rattle.tray_file.specs.declared.writer.write_refusal.WriteRefusal.TheVariants.{NoLetter, WrongLength, BadNote, TooSmall}

pub writable : (m : Meaning) (kind origin : ℕ) (code : Code) → Checked m code → kind ≤ largest_number → origin ≤ largest_number → Writable kind origin code
writable m kind origin code checked kind_small origin_small =
    let bound = checked.laws.bounded in
    let shape = checked.shape in
    record {
      kind_small = kind_small;
      origin_small = origin_small;
      letters_small = omega (arith, bound, checked.alphabet.elements);
      few_rows = shape.sizes.most_rows;
      few_locators = shape.sizes.most_cells;
      few_multipliers = omega (arith, shape.sizes.most_cells, shape.a_multiplier_each);
      small_locators = small_below m.arithmetic.size code.locators bound (λ j h. checked.locators.element j h);
      small_multipliers = small_below m.arithmetic.size code.multipliers bound (λ j h. checked.multipliers.element j h);
    }

-- a card's body, part by part
pub card_parts : (kind origin : ℕ) (code : Code) →
    numbers (kind ∷ origin ∷ code.letters ∷ length code.locators ∷ code.rows ∷ []) ++ (numbers code.locators ++ numbers code.multipliers) ≡ card_body kind origin code
card_parts kind origin code =
    let head = kind ∷ origin ∷ code.letters ∷ length code.locators ∷ code.rows ∷ [] in
    ap (λ (l : List ℕ). numbers head ++ l) (sym (numbers_append code.locators code.multipliers)) ∙ sym (numbers_append head (code.locators ++ code.multipliers))

letter_small : (letters : ℕ) (letter : Option ℕ) → letters ≤ largest_size → BelowIfNoted letters letter → letter_number letter ≤ largest_number
letter_small letters None bound below = omega arith
letter_small letters (Some letter) bound below = omega arith

pub small_cells : (letters : ℕ) (cells : List Cell) → letters ≤ largest_size → Lettered letters cells → Small (map cell_number cells)
small_cells letters [] bound lettered = tt
small_cells letters (cell ∷ cells) bound lettered =
    (letter_small letters cell.letter bound (lettered 0 (omega arith)), small_cells letters cells bound (λ j h. lettered (suc j) (omega arith)))

-- what the record's writer answers is what the cells' writer answers
pub cells_written : (code : Code) (cells : List Cell) (body before after : List ℕ) (r : Result ℕ WriteRefusal) →
    length cells ≡ length code.locators → Lettered code.letters cells → body ≡ cells_body cells →
    RecordWritten (kind_number Cells) body before after r → CellsWritten code cells before after r
cells_written code cells body before after r count lettered is written =
    by_answer r (subst (λ (l : List ℕ). RecordWritten (kind_number Cells) l before after r) is written)
  where
    by_answer : (s : Result ℕ WriteRefusal) → RecordWritten (kind_number Cells) (cells_body cells) before after s → CellsWritten code cells before after s
    by_answer (Ok n) put = (count, lettered, put)
    by_answer (Err TooSmall) small = (refl, count, lettered, small.1)
    by_answer (Err NoLetter) never = absurd never
    by_answer (Err WrongLength) never = absurd never
    by_answer (Err BadNote) never = never

-- a body of one list
pub one_list : (body : BodyNumbers) (list : List ℕ) → body.head.now ≡ list → body.first.now ≡ [] → body.second.now ≡ [] →
    length list ≤ largest_cells → Small list → NumberRecord body
one_list body list head first second short small = record {
  head_short = subst (λ (l : List ℕ). length l ≤ largest_cells) (sym head) short;
  first_short = subst (λ (l : List ℕ). length l ≤ largest_cells) (sym first) (omega arith);
  second_short = subst (λ (l : List ℕ). length l ≤ largest_cells) (sym second) (omega arith);
  head_small = subst Small (sym head) small;
  first_small = subst Small (sym first) tt;
  second_small = subst Small (sym second) tt;
}

pub one_list_bytes : (head first second list : List ℕ) → head ≡ list → first ≡ [] → second ≡ [] → numbers head ++ (numbers first ++ numbers second) ≡ numbers list
one_list_bytes head first second list is none none_2 =
    ap₂ (λ (a b : List ℕ). numbers a ++ (numbers b ++ numbers second)) is none ∙ ap (λ (l : List ℕ). numbers list ++ ([] ++ numbers l)) none_2
    ∙ append-nil (numbers list)
