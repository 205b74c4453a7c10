-- A run of a line and a read: what the law over runs says of its two events.
use Rattle.std.proofs.Common.{◌≡◌, ℕ, ◌<◌, List, [], ◌∷◌, map, length, get_or, take, Err, Result, sym, refl, ap, ◌∙◌, subst, subst₂, arith, Bor}
use Rattle.std.specs.Str.{chars}
use Rattle.std.proofs.lemmas.List.{get_or-map, take_all}
use Rattle.algebra.specs.Meaning.{Arithmetic}
use Rattle.codes.specs.Code.{Code}
use Rattle.codes.specs.declared.cell.Cell.{Cell}
use Rattle.decoding.specs.reading.Reading.{Reading}
use Rattle.decoding.specs.declared.reading.read_answer.Counts.{Counts}
use Rattle.decoding.specs.declared.reading.read_answer.ReadRefusal.{ReadRefusal}
use Rattle.decoding.specs.declared.reading.read_answer.ReadRefusal.TheVariants.{WrongLength, TooBlank, Lost}
use Rattle.tags.specs.runs.Calls.{call_of}
use Rattle.tags.specs.marks.Lines.{LineRead}
use Rattle.tags.specs.runs.Runs.{RunLaw}
use Rattle.tags.specs.tag.Sheet.{blank_sheet, after_line}
use Rattle.tags.specs.declared.runs.call.Call.{Call}
use Rattle.tags.specs.declared.runs.call.Call.TheVariants as call
use Rattle.tags.specs.declared.runs.event.Event.{Event}
use Rattle.tags.specs.declared.runs.event.Event.TheVariants.{Line, Read}
use Rattle.tags.specs.declared.marks.line.LineRefusal.{LineRefusal}
use Rattle.tags.specs.declared.marks.line.LineRefusal.TheVariants.{UnmarkedAlphabet, BadMark}
use Rattle.tags.specs.declared.marks.line.LineRefusal.TheVariants as line_refusal
use Rattle.demo.specs.Found.{ReadShown}

two : (xs : List Event) (d : Event) → length xs ≡ 2 → xs ≡ get_or xs 0 d ∷ get_or xs 1 d ∷ []
two [] d e = absurd (omega (arith, e))
two (x ∷ []) d e = absurd (omega (arith, e))
two (x ∷ y ∷ []) d e = refl
two (x ∷ y ∷ z ∷ zs) d e = absurd (omega (arith, e))

whole : (xs : List Event) → length xs ≡ 2 → take 2 xs ≡ xs
whole [] e = absurd (omega (arith, e))
whole (x ∷ []) e = absurd (omega (arith, e))
whole (x ∷ y ∷ []) e = refl
whole (x ∷ y ∷ z ∷ zs) e = absurd (omega (arith, e))

module _ (A : Arithmetic) (code : Code) (text : Bor (List ℕ)) (room : List ℕ) (room_long : length room ≡ 20) (events : ℕ) (journal : List Event) (d : Event) (noted : Result (Unit {0}) LineRefusal) (answer : Result Counts ReadRefusal) (word : List ℕ) (two-events : events ≡ 2) (two-places : length journal ≡ 2) (calls : map call_of (take events journal) ≡ take events (call.Line text ∷ call.Read 20 ∷ [])) (law : RunLaw A code room (take events journal)) (line-is : call_of (get_or journal 0 d) ≡ call.Line text → get_or journal 0 d ≡ Line text noted) (read_is : call_of (get_or journal 1 d) ≡ call.Read 20 → ReadShown (get_or journal 1 d) answer word) where
  all : take events journal ≡ journal
  all = ap (λ k. take k journal) two-events ∙ whole journal two-places

  calls_are : map call_of journal ≡ call.Line text ∷ call.Read 20 ∷ []
  calls_are = ap (map call_of) (sym all) ∙ calls ∙ ap (λ k. take k (call.Line text ∷ call.Read 20 ∷ [])) two-events

  call_at : (i : ℕ) → i < length journal → call_of (get_or journal i d) ≡ get_or (call.Line text ∷ call.Read 20 ∷ []) i (call_of d)
  call_at i h = sym (get_or-map call_of journal i d (call_of d) h) ∙ ap (λ (cs : List Call). get_or cs i (call_of d)) calls_are

  first : get_or journal 0 d ≡ Line text noted
  first = line-is (call_at 0 (omega arith))

  read_made : ReadShown (get_or journal 1 d) answer word
  read_made = read_is (call_at 1 (omega arith))

  abbrev shown : Bor (List ℕ)
  shown = read_made.0

  second : get_or journal 1 d ≡ Read answer shown
  second = read_made.1

  -- the read shows 20 numbers
  shown_long : length shown.now ≡ 20
  shown_long = let is : call.Read (length shown.now) ≡ call.Read 20 = ap call_of (sym second) ∙ call_at 1 (omega arith) in cc

  events_are : take events journal ≡ Line text noted ∷ Read answer shown ∷ []
  events_are = all ∙ two journal d two-places ∙ ap (λ (e : Event). e ∷ get_or journal 1 d ∷ []) first ∙ ap (λ (e : Event). Line text noted ∷ e ∷ []) second

  the_law : RunLaw A code room (Line text noted ∷ Read answer shown ∷ [])
  the_law = subst (RunLaw A code room) events_are law

  line_read : LineRead code.letters (chars text.now) (blank_sheet code) (after_line code (chars text.now) (blank_sheet code)) noted
  line_read = (the_law.answers 0 (Line text noted) refl).1

  -- it is into the whole room
  sheet_read : Reading A code (after_line code (chars text.now) (blank_sheet code)) room word answer
  sheet_read =
      let read = the_law.answers 1 (Read answer shown) refl in
      subst₂ (λ (before after : List ℕ). Reading A code (after_line code (chars text.now) (blank_sheet code)) before after answer) (take_all (length shown.now) room (omega (arith, shown_long, room_long))) read_made.2 read.reading

  -- the cells that the line leaves, and what they read as, of a named arithmetic and a named code
  pub both_under : (B : Arithmetic) (other : Code) → A ≡ B → code ≡ other → (cells : List Cell) × LineRead other.letters (chars text.now) (blank_sheet other) cells noted × Reading B other cells room word answer
  both_under B other arithmetic-is code_is =
      subst₂ (λ (B : Arithmetic) (other : Code). (cells : List Cell) × LineRead other.letters (chars text.now) (blank_sheet other) cells noted × Reading B other cells room word answer)
      arithmetic-is code_is (after_line code (chars text.now) (blank_sheet code), line_read, sheet_read)

-- a refused line leaves the cells
pub refused_line : (letters : ℕ) (marks : List ℕ) (before after : List Cell) (refusal : LineRefusal) → LineRead letters marks before after (Err refusal) → LineRead letters marks before before (Err refusal)
refused_line letters marks before after line_refusal.WrongLength r = (r.0, r.1, refl)
refused_line letters marks before after UnmarkedAlphabet r = (r.0, r.1, r.2, refl)
refused_line letters marks before after (BadMark place) r = (r.0, r.1, r.2, r.3, refl)

-- a refused reading leaves the buffer
pub left_as_it_was : (A : Arithmetic) (code : Code) (cells : List Cell) (before after : List ℕ) (refusal : ReadRefusal) → Reading A code cells before after (Err refusal) → Reading A code cells before before (Err refusal)
left_as_it_was A code cells before after WrongLength r = (r.0, r.1, refl)
left_as_it_was A code cells before after TooBlank r = (r.0, r.1, r.2, refl)
left_as_it_was A code cells before after Lost r = (r.0, r.1, r.2, r.3, refl)
