-- A word that is near the sheet stays near under the calls that keep it.
use Rattle.std.proofs.Common.{◌≡◌, ℕ, zero, suc, ◌+◌, ◌-◌, ◌*◌, ◌<◌, ◌≤◌, Bool, true, false, cond, eqb, List, [], ◌∷◌, length, get_or, set, Some, None, Option, sym, refl, ◌∙◌, arith}
use Rattle.std.specs.Str.{chars}
use Rattle.std.proofs.lemmas.List.{length-set, length-map}
use Rattle.std.proofs.lemmas.Bool.{cond-true, cond-false, eq-eqb, ne_eqb, eqb-true}
use Rattle.algebra.specs.Meaning.{Arithmetic}
use Rattle.codes.specs.Code.{Code}
use Rattle.codes.specs.Cells.{blank_cell, noted_cell, blanks, one_if_blank}
use Rattle.codes.specs.declared.cell.Cell.{Cell}
use Rattle.decoding.specs.reading.Reading.{wrong, one_if_wrong, Near}
use Rattle.tags.specs.tag.Sheet.{width, is_cell, refusal_of_note, refusal_of_wipe, refusal_of_line, unless_refused}
use Rattle.tags.specs.runs.Calls.{after_call}
use Rattle.tags.proofs.tag_lemmas.Sheets.{a_place}
use Rattle.tags.specs.runs.Runs.{BlankOrWrong, Keeps}
use Rattle.tags.specs.declared.runs.call.Call.{Call}
use Rattle.tags.specs.declared.runs.call.Call.TheVariants.{Note, Wipe, Line, Read}

-- what a cell adds to 2 × wrong + blank
abbrev cost : Cell → ℕ → ℕ
cost cell x = 2 * one_if_wrong cell.letter x + one_if_blank cell.letter

abbrev costs : List Cell → List ℕ → ℕ
costs cells word = 2 * wrong cells word + blanks cells

costs_set : (cells : List Cell) (word : List ℕ) (i : ℕ) (new : Cell) → length cells ≡ length word → i < length cells → cost new (get_or word i 0) ≤ cost (get_or cells i blank_cell) (get_or word i 0) → costs (set cells i new) word ≤ costs cells word
costs_set [] word i new same within less = absurd (omega arith)
costs_set (cell ∷ cells) [] i new same within less = absurd (omega arith)
costs_set (cell ∷ cells) (x ∷ word) zero new same within less = omega arith
costs_set (cell ∷ cells) (x ∷ word) (suc i) new same within less =
    let rest = costs_set cells word i new (omega arith) (omega arith) less in omega arith

-- the word's own letter costs nothing
own_letter : (letter x : ℕ) (old : Cell) → letter ≡ x → cost (noted_cell letter) x ≤ cost old x
own_letter letter x old is = let none : one_if_wrong (Some letter) x ≡ 0 = cond-true _ _ _ (eq-eqb letter x is) in omega arith

-- a blank costs no more than a blank or a wrong letter
blanked : (letter : Option ℕ) (x : ℕ) → BlankOrWrong letter x → 1 ≤ 2 * one_if_wrong letter x + one_if_blank letter
blanked None x other = omega arith
blanked (Some letter) x other = let one : one_if_wrong (Some letter) x ≡ 1 = cond-false _ _ _ (ne_eqb letter x other) in omega arith

-- an accepted call is at a cell
at_cell : (b : Bool) (inner : Option ℕ) (number : ℕ) → cond b inner (Some number) ≡ None → b ≡ true
at_cell true inner number e = refl
at_cell false inner number e = let zero_one : ◌≡◌ {A = ℕ} 0 1 = cc in absurd (omega arith)

by_refusal : (P : List Cell → Type 0) (refusal : Option ℕ) (changed sheet : List Cell) → (refusal ≡ None → P changed) → P sheet → P (unless_refused refusal changed sheet)
by_refusal P None changed sheet accepted as_it_was = accepted refl
by_refusal P (Some number) changed sheet accepted as_it_was = as_it_was

-- a sheet keeps its n cells
pub sheet_long : (code : Code) (sheet : List Cell) (call : Call) → length sheet ≡ width code → length (after_call code sheet call) ≡ width code
sheet_long code sheet (Note cell letter) long = by_refusal (λ s. length s ≡ width code) (refusal_of_note code cell letter) _ sheet (λ accepted. length-set _ _ _ ∙ long) long
sheet_long code sheet (Wipe cell) long = by_refusal (λ s. length s ≡ width code) (refusal_of_wipe code cell) _ sheet (λ accepted. length-set _ _ _ ∙ long) long
sheet_long code sheet (Line text) long =
    by_refusal (λ s. length s ≡ width code) (refusal_of_line code (chars text.now)) _ sheet
    (λ accepted. length-map (chars text.now) _ ∙ eqb-true _ _ (at_cell (eqb (length (chars text.now)) (width code)) _ 25 accepted)) long
sheet_long code sheet (Read size) long = long

module _ (A : Arithmetic) (code : Code) (word : List ℕ) where
  closer : (sheet changed : List Cell) → Near A code sheet word → costs changed word ≤ costs sheet word → Near A code changed word
  closer sheet changed near less = let close = near.close in record { codeword = near.codeword; close = omega arith }

  set_closer : (sheet : List Cell) (cell : ℕ) (new : Cell) → length sheet ≡ width code → Near A code sheet word → is_cell code cell ≡ true → cost new (get_or word (cell - 1) 0) ≤ cost (get_or sheet (cell - 1) blank_cell) (get_or word (cell - 1) 0) → Near A code (set sheet (cell - 1) new) word
  set_closer sheet cell new long near is less =
      let place = a_place code cell is in
      closer sheet (set sheet (cell - 1) new) near (costs_set sheet word (cell - 1) new (long ∙ sym near.codeword.long) (omega arith) less)

  pub stays_near : (sheet : List Cell) (call : Call) → length sheet ≡ width code → Near A code sheet word → Keeps code word sheet call → Near A code (after_call code sheet call) word
  stays_near sheet (Note cell letter) long near keeps =
      by_refusal (λ s. Near A code s word) (refusal_of_note code cell letter) _ sheet
      (λ accepted. set_closer sheet cell (noted_cell letter) long near (at_cell (is_cell code cell) _ 21 accepted) (own_letter letter (get_or word (cell - 1) 0) (get_or sheet (cell - 1) blank_cell) (keeps accepted))) near
  stays_near sheet (Wipe cell) long near keeps =
      by_refusal (λ s. Near A code s word) (refusal_of_wipe code cell) _ sheet
      (λ accepted. set_closer sheet cell blank_cell long near (at_cell (is_cell code cell) _ 21 accepted) (blanked (get_or sheet (cell - 1) blank_cell).letter (get_or word (cell - 1) 0) (keeps accepted))) near
  stays_near sheet (Line text) long near keeps = by_refusal (λ s. Near A code s word) (refusal_of_line code (chars text.now)) _ sheet (λ accepted. absurd (keeps accepted)) near
  stays_near sheet (Read size) long near keeps = near
