-- The sheet's answers, from the tests that the tag makes.
use Rattle.std.proofs.Common.{◌≡◌, ℕ, zero, suc, ◌-◌, ◌<◌, Bool, true, false, cond, leb, List, [], ◌∷◌, length, get_or, take, set, is_some, Some, None, Ok, Err, Option, Result, unwrap_or, sym, refl, ap, ◌∙◌, ap₂, arith}
use lib.Seq.{take-set-lt}
use Rattle.std.proofs.lemmas.Bool.{and_from, and_parts, and_left, and_right, cond-true, cond-false, eq-eqb, ne_eqb, le-leb, lt-leb, lt-ltb, leb-true, true≢false}
use Rattle.std.proofs.lemmas.Option.{same_Some}
use Rattle.codes.specs.Code.{Code}
use Rattle.codes.specs.Cells.{blank_cell}
use Rattle.codes.specs.declared.cell.Cell.{Cell}
use Rattle.tags.specs.marks.Lines.{marked_cell, LineRead, line_number}
use Rattle.tags.specs.tag.Sheet.{width, is_cell, place_in, all_marked, marked_cells, refusal_of_note, refusal_of_wipe, refusal_of_line, after_line, unless_refused, refused}
use Rattle.tags.specs.declared.marks.line.LineRefusal.{LineRefusal}
use Rattle.tags.specs.declared.marks.line.LineRefusal.TheVariants.{WrongLength, UnmarkedAlphabet, BadMark}

-- what a place that is found tells of the test that finds it, and one that is not
place_found : (b : Bool) (x place : ℕ) → cond b (Some x) None ≡ Some place → (b ≡ true) × (place ≡ x)
place_found true x place e = (refl, sym (same_Some x place e))
place_found false x place e = absurd (true≢false (sym (ap is_some e)))

none_found : (b : Bool) (x : ℕ) → cond b (Some x) None ≡ None → b ≡ false
none_found true x e = absurd (true≢false (ap is_some e))
none_found false x e = refl

-- the tests of a cell's number and of a letter, `d` being the code as the card lends it
module _ (code : Code) (cell : ℕ) where
  pub a_cell : (place : ℕ) → place_in code cell ≡ Some place → (is_cell code cell ≡ true) × (place ≡ cell - 1)
  a_cell place is = place_found (is_cell code cell) (cell - 1) place is

  pub a_place : is_cell code cell ≡ true → cell - 1 < width code
  a_place is =
      let parts = and_parts (leb 1 cell) (leb cell (width code)) is in
      let low = leb-true 1 cell parts.0 in
      let high = leb-true cell (width code) parts.1 in
      omega arith

  pub no_cell : (A : Type 0) (inner other : Option A) → place_in code cell ≡ None → cond (is_cell code cell) inner other ≡ other
  no_cell A inner other none = cond-false _ _ _ (none_found (is_cell code cell) (cell - 1) none)

  pub note_accepted : (d : Code) (letter : ℕ) → d ≡ code → is_cell code cell ≡ true → letter < d.letters → None ≡ refusal_of_note code cell letter
  note_accepted d letter same is small =
      let below : letter < code.letters = omega (arith, ap (λ (e : Code). e.letters) same) in
      sym (cond-true _ _ _ is ∙ cond-true _ _ _ (lt-ltb letter code.letters below))

  pub wipe_accepted : is_cell code cell ≡ true → None ≡ refusal_of_wipe code cell
  wipe_accepted is = sym (cond-true _ _ _ is)

-- an accepted note or wipe changes the same cell of the first n
pub changed_cell : (refusal : Option ℕ) (n cell : ℕ) (cells : List Cell) (new : Cell) → None ≡ refusal → cell - 1 < n → take n (set cells (cell - 1) new) ≡ unless_refused refusal (set (take n cells) (cell - 1) new) (take n cells)
changed_cell refusal n cell cells new accepted within =
    take-set-lt n cells (cell - 1) new within ∙ ap (λ (o : Option ℕ). unless_refused o (set (take n cells) (cell - 1) new) (take n cells)) accepted

-- what the marks stand for, as the list of cells
marked_list : (letters : ℕ) (marks : List ℕ) (cells : List Cell) → length cells ≡ length marks → ((j : ℕ) → j < length marks → marked_cell letters (get_or marks j 0) ≡ Some (get_or cells j blank_cell)) → (all_marked letters marks ≡ true) × (cells ≡ marked_cells letters marks)
marked_list letters [] [] long each = (refl, refl)
marked_list letters [] (cell ∷ cells) long each = absurd (omega arith)
marked_list letters (mark ∷ marks) [] long each = absurd (omega arith)
marked_list letters (mark ∷ marks) (cell ∷ cells) long each =
    let here = each 0 (omega arith) in
    let rest = marked_list letters marks cells (omega arith) (λ j h. each (suc j) (omega arith)) in (
      and_from _ _ (ap is_some here) rest.0,
      ap₂ (λ (x : Cell) xs. x ∷ xs) (sym (ap (λ (o : Option Cell). unwrap_or o blank_cell) here)) rest.1,
    )

a_bad_mark : (letters : ℕ) (marks : List ℕ) (j : ℕ) → j < length marks → marked_cell letters (get_or marks j 0) ≡ None → all_marked letters marks ≡ false
a_bad_mark letters [] j h bad = absurd (omega arith)
a_bad_mark letters (mark ∷ marks) zero h bad = and_left _ _ (ap is_some bad)
a_bad_mark letters (mark ∷ marks) (suc j) h bad = and_right _ _ (a_bad_mark letters marks j (omega arith) bad)

-- a line that is read is answered as the sheet's, and sets the cells to the sheet's
module _ (code : Code) (marks : List ℕ) (before after : List Cell) (long : length before ≡ width code) where
  abbrev LineAnswered : Result (Unit {0}) LineRefusal → Type 0
  LineAnswered r = (refused line_number r ≡ refusal_of_line code marks) × (after ≡ after_line code marks before)

  answered : (r : Result (Unit {0}) LineRefusal) (changed : List Cell) → refused line_number r ≡ refusal_of_line code marks → after ≡ unless_refused (refused line_number r) changed before → changed ≡ marked_cells code.letters marks → LineAnswered r
  answered r changed same is all = (same, is ∙ ap₂ (λ (o : Option ℕ) xs. unless_refused o xs before) same all)

  pub line_answered : (r : Result (Unit {0}) LineRefusal) → LineRead code.letters marks before after r → LineAnswered r
  line_answered (Ok done) read =
      let all = marked_list code.letters marks after read.2.long read.2.each in
      answered (Ok done) after (sym (cond-true _ _ _ (eq-eqb _ _ (read.0 ∙ long)) ∙ cond-true _ _ _ (and_from _ _ (le-leb _ _ read.1) all.0))) refl all.1
  line_answered (Err WrongLength) read =
      answered (Err WrongLength) _ (sym (cond-false _ _ _ (ne_eqb _ _ (λ e. read.1 (e ∙ sym long))))) read.2 refl
  line_answered (Err UnmarkedAlphabet) read =
      answered (Err UnmarkedAlphabet) _ (sym (cond-true _ _ _ (eq-eqb _ _ (read.1 ∙ long)) ∙ cond-false _ _ _ (and_left _ _ (lt-leb _ _ read.2)))) read.3 refl
  line_answered (Err (BadMark place)) read =
      answered (Err (BadMark place)) _ (sym (cond-true _ _ _ (eq-eqb _ _ (read.1 ∙ long)) ∙ cond-false _ _ _ (and_right _ _ (a_bad_mark code.letters marks place read.3.0 read.3.1)))) read.4 refl
