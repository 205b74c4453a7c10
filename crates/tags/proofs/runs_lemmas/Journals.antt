-- Journals: their places, one event more, and the law from the answers.
use Rattle.std.proofs.Common.{◌≡◌, ℕ, zero, suc, ◌<◌, ◌≤◌, true, ◌⊎◌, List, [], ◌∷◌, ◌++◌, map, length, take, drop, is_ok, Some, Ok, Err, fold, Option, Result, sym, refl, ap, ◌∙◌, subst, subst₂, inl, inr, ⊎_elim, arith}
use Rattle.std.specs.List.{slice_get}
use Rattle.std.specs.Prelude.{◌↔◌, IsTrue}
use Rattle.std.proofs.lemmas.List.{append_assoc, append-nil, take-append-le, take_all, take_at, length-take, length-take-le, length-replicate}
use Rattle.std.proofs.lemmas.Bool.{cases_eq, cond-true, cond-false, eq-eqb, ne_eqb, le-leb, lt-leb, false≢true}
use Rattle.algebra.specs.Meaning.{Arithmetic}
use Rattle.codes.specs.Code.{Code}
use Rattle.codes.specs.Cells.{blank_cell}
use Rattle.codes.specs.declared.cell.Cell.{Cell}
use Rattle.decoding.specs.reading.Reading.{Near, Reading, read_number}
use Rattle.tags.specs.tag.Sheet.{width, blank_sheet}
use Rattle.tags.specs.runs.Calls.{after_call, sheet_of, call_of}
use Rattle.tags.specs.runs.Plays.{PicksAll}
use Rattle.tags.specs.runs.Rooms.{lent_to, used}
use Rattle.tags.specs.runs.Runs.{Answered, Shows, Keeps, RunLaw, sheet_at, left_at, read_refusal}
use Rattle.tags.specs.declared.runs.call.Call.{Call}
use Rattle.tags.specs.declared.runs.call.Call.TheVariants as call
use Rattle.tags.specs.declared.runs.event.Event.{Event}
use Rattle.tags.specs.declared.runs.event.Event.TheVariants.{Note, Wipe, Line, Read}
use Rattle.decoding.specs.declared.reading.read_answer.Counts.{Counts}
use Rattle.decoding.specs.declared.reading.read_answer.ReadRefusal.{ReadRefusal}
use Rattle.decoding.specs.declared.reading.read_answer.ReadRefusal.TheVariants.{WrongLength, TooBlank, Lost}
use Rattle.tags.proofs.runs_lemmas.Staying.{sheet_long, stays_near}

abbrev pub AllAnswered : Arithmetic → Code → List ℕ → List Event → Type 0
AllAnswered A code room journal = (i : ℕ) (event : Event) → slice_get journal i ≡ Some event → Answered A code (sheet_at code journal i) (left_at room journal i) event

-- an event of a call that was lent the next numbers of the room is answered of all that is left of it
pub answered_next : (A : Arithmetic) (code : Code) (sheet : List Cell) (left : List ℕ) (event : Event) → lent_to (call_of event) ≤ length left → Answered A code sheet (take (lent_to (call_of event)) left) event → Answered A code sheet left event
answered_next A code sheet left (Note cell letter answer) fits a = a
answered_next A code sheet left (Wipe cell answer) fits a = a
answered_next A code sheet left (Line text answer) fits a = a
answered_next A code sheet left (Read answer shown) fits a =
    let size = length shown.now in
    record {
      within = fits;
      reading = subst (λ (before : List ℕ). Reading A code sheet before shown.now answer) (take_all size (take size left) (omega (arith, length-take size left))) a.reading;
    }

-- places

within : (journal : List Event) (i : ℕ) (event : Event) → slice_get journal i ≡ Some event → i < length journal
within [] i event at = let zero_one : ◌≡◌ {A = ℕ} 0 1 = cc in absurd (omega arith)
within (e ∷ journal) zero event at = omega arith
within (e ∷ journal) (suc i) event at = let rest = within journal i event at in omega arith

event_at : (journal : List Event) (i : ℕ) → i < length journal → (event : Event) × (slice_get journal i ≡ Some event)
event_at [] i h = absurd (omega arith)
event_at (e ∷ journal) zero h = (e, refl)
event_at (e ∷ journal) (suc i) h = event_at journal i (omega arith)

at_push : (journal : List Event) (e : Event) (i : ℕ) (event : Event) → slice_get (journal ++ (e ∷ [])) i ≡ Some event → ((i < length journal) × (slice_get journal i ≡ Some event)) ⊎ ((i ≡ length journal) × (e ≡ event))
at_push [] e zero event at = inr (refl, cc)
at_push [] e (suc i) event at = let zero_one : ◌≡◌ {A = ℕ} 0 1 = cc in absurd (omega arith)
at_push (x ∷ journal) e zero event at = inl (omega arith, at)
at_push (x ∷ journal) e (suc i) event at =
    ⊎_elim (λ before. let less = before.0 in inl (omega arith, before.1)) (λ last. inr (ap suc last.0, last.1)) (at_push journal e i event at)

-- one event more

pub answered_more : (A : Arithmetic) (code : Code) (room : List ℕ) (journal : List Event) (e : Event) → AllAnswered A code room journal → Answered A code (sheet_of code (map call_of journal)) (drop (used (map call_of journal)) room) e → AllAnswered A code room (journal ++ (e ∷ []))
answered_more A code room journal e all here i event at =
    ⊎_elim
    (λ before. let less = before.0 in
    subst (λ (seen : List Event). Answered A code (sheet_of code (map call_of seen)) (drop (used (map call_of seen)) room) event) (sym (take-append-le i journal (e ∷ []) (omega arith))) (all i event before.1))
    (λ last. subst₂ (λ (seen : List Event) (x : Event). Answered A code (sheet_of code (map call_of seen)) (drop (used (map call_of seen)) room) x) (sym (take_at journal (e ∷ []) i (sym last.0))) last.1 here)
    (at_push journal e i event at)

pub picks_more : {W : Type 0} (picks : W → List Event → Option Call → W → Type 0) (earlier : List Event) (worker : W) (journal : List Event) (before after : W) (e : Event) → PicksAll picks earlier worker journal before → picks before (earlier ++ journal) (Some (call_of e)) after → PicksAll picks earlier worker (journal ++ (e ∷ [])) after
picks_more picks earlier worker [] before after e so_far pick =
    (after, subst₂ (λ w (seen : List Event). picks w seen (Some (call_of e)) after) (sym so_far) (append-nil earlier) pick, refl)
picks_more picks earlier worker (x ∷ journal) before after e so_far pick =
    (so_far.0, so_far.1, picks_more picks (earlier ++ (x ∷ [])) so_far.0 journal before after e so_far.2 (subst (λ (seen : List Event). picks before seen (Some (call_of e)) after) (sym (append_assoc earlier (x ∷ []) journal)) pick))

-- the sheet before each place

sheet_more : (code : Code) (start : List Cell) (journal : List Event) (i : ℕ) (event : Event) → slice_get journal i ≡ Some event → fold (after_call code) start (map call_of (take (suc i) journal)) ≡ after_call code (fold (after_call code) start (map call_of (take i journal))) (call_of event)
sheet_more code start [] i event at = let zero_one : ◌≡◌ {A = ℕ} 0 1 = cc in absurd (omega arith)
sheet_more code start (e ∷ journal) zero event at = let same : e ≡ event = cc in ap (λ (x : Event). after_call code start (call_of x)) same
sheet_more code start (e ∷ journal) (suc i) event at = sheet_more code (after_call code start (call_of e)) journal i event at

pub sheet_push : (code : Code) (start : List Cell) (journal : List Event) (e : Event) → fold (after_call code) start (map call_of (journal ++ (e ∷ []))) ≡ after_call code (fold (after_call code) start (map call_of journal)) (call_of e)
sheet_push code start [] e = refl
sheet_push code start (x ∷ journal) e = sheet_push code (after_call code start (call_of x)) journal e

folded_long : (code : Code) (calls : List Call) (start : List Cell) → length start ≡ width code → length (fold (after_call code) start calls) ≡ width code
folded_long code [] start long = long
folded_long code (call ∷ calls) start long = folded_long code calls (after_call code start call) (sheet_long code start call long)

-- the law

module _ (A : Arithmetic) (code : Code) where
  -- a read that is lent the next numbers is granted or refused in its case
  module _ (sheet : List Cell) (left shown : List ℕ) (fits : length shown ≤ length left) where
    abbrev part : List ℕ
    part = take (length shown) left

    whole : length part ≡ length shown
    whole = length-take-le (length shown) left fits

    decided : (answer : Result Counts ReadRefusal) → Reading A code sheet part shown answer → IsTrue (is_ok answer) ↔ ((length shown ≡ width code) × ((word : List ℕ) × Near A code sheet word))
    decided (Ok counts) read = (λ e. (sym whole ∙ read.0, (shown, read.1)), λ near. refl)
    decided (Err WrongLength) read = (λ e. absurd (false≢true e), λ near. absurd (read.1 (whole ∙ near.0)))
    decided (Err TooBlank) read = (λ e. absurd (false≢true e), λ near. let close = near.1.1.close in let many = read.2 in absurd (omega arith))
    decided (Err Lost) read = (λ e. absurd (false≢true e), λ near. absurd (read.3 near.1.0 near.1.1))

    -- a refused read has its number, and leaves the part that it was lent
    refusal_of : (refusal : ReadRefusal) → Reading A code sheet part shown (Err refusal) → (read_number refusal ≡ read_refusal code sheet (length shown)) × (shown ≡ part)
    refusal_of WrongLength read = (sym (cond-false _ _ _ (ne_eqb _ _ (λ e. read.1 (whole ∙ e)))), read.2)
    refusal_of TooBlank read = (sym (cond-true _ _ _ (eq-eqb _ _ (sym whole ∙ read.1)) ∙ cond-false _ _ _ (lt-leb _ _ read.2)), read.3)
    refusal_of Lost read = (sym (cond-true _ _ _ (eq-eqb _ _ (sym whole ∙ read.1)) ∙ cond-true _ _ _ (le-leb _ _ read.2)), read.4)

  shown_near : (sheet : List Cell) (before after : List ℕ) (answer : Result Counts ReadRefusal) → Reading A code sheet before after answer → is_ok answer ≡ true → Near A code sheet after × ((word : List ℕ) → Near A code sheet word → word ≡ after)
  shown_near sheet before after (Ok counts) read e = (read.1, read.2)
  shown_near sheet before after (Err refusal) read e = absurd (false≢true e)

  -- a granted read leaves the sheet, and shows a word that is near it
  shown : (sheet : List Cell) (left word : List ℕ) (event : Event) → Answered A code sheet left event → Shows word event → Near A code (after_call code sheet (call_of event)) word
  shown sheet left word (Note cell letter answer) a shows = absurd shows
  shown sheet left word (Wipe cell answer) a shows = absurd shows
  shown sheet left word (Line text answer) a shows = absurd shows
  shown sheet left word (Read answer part) a shows = subst (Near A code sheet) shows.1 (shown_near sheet _ _ answer a.reading shows.0).0

  -- a read of n numbers shows the word that is near the sheet
  shows_near : (sheet : List Cell) (left word : List ℕ) (event : Event) → Answered A code sheet left event → call_of event ≡ call.Read (width code) → Near A code sheet word → Shows word event
  shows_near sheet left word (Note cell letter answer) a is near = let zero_one : ◌≡◌ {A = ℕ} 0 1 = cc in absurd (omega arith)
  shows_near sheet left word (Wipe cell answer) a is near = let zero_one : ◌≡◌ {A = ℕ} 0 1 = cc in absurd (omega arith)
  shows_near sheet left word (Line text answer) a is near = let zero_one : ◌≡◌ {A = ℕ} 0 1 = cc in absurd (omega arith)
  shows_near sheet left word (Read answer part) a is near =
      let all : length part.now ≡ width code = cc in
      let granted = (decided sheet left part.now a.within answer a.reading).1 (all, (word, near)) in
      (granted, sym ((shown_near sheet _ _ answer a.reading granted).1 word near))

  module _ (room : List ℕ) (journal : List Event) (answers : AllAnswered A code room journal) where
    -- the word is near the sheet at every later place, as long as the calls keep it
    near_at : (i j : ℕ) (word : List ℕ) → j ≤ length journal → Near A code (sheet_at code journal (suc i)) word
        → ((k : ℕ) (event : Event) → i < k → k < j → slice_get journal k ≡ Some event → Keeps code word (sheet_at code journal k) (call_of event))
        → (m : ℕ) → i < m → m ≤ j → Near A code (sheet_at code journal m) word
    near_at i j word long near keeps zero less below = absurd (omega arith)
    near_at i j word long near keeps (suc k) less below =
        ⊎_elim
        (λ same. subst (λ n. Near A code (sheet_at code journal (suc n)) word) same near)
        (λ other.
        let at = event_at journal k (omega arith) in
        let before = near_at i j word long near keeps k (omega arith) (omega arith) in
        subst (λ (s : List Cell). Near A code s word) (sym (sheet_more code (blank_sheet code) journal k at.0 at.1))
        (stays_near A code word (sheet_at code journal k) (call_of at.0) (folded_long code (map call_of (take k journal)) (blank_sheet code) (length-replicate (width code) blank_cell)) before
        (keeps k at.0 (omega arith) (omega arith) at.1)))
        (cases_eq i k)

    pub run_law : RunLaw A code room journal
    run_law = record {
      answers = answers;
      granted = λ i answer part at. let a = answers i (Read answer part) at in decided (sheet_at code journal i) (left_at room journal i) part.now a.within answer a.reading;
      shown = λ i counts part at. let read = (answers i (Read (Ok counts) part) at).reading in (read.1, read.2, read.3, read.4);
      refused_read = λ i refusal part at. let a = answers i (Read (Err refusal) part) at in refusal_of (sheet_at code journal i) (left_at room journal i) part.now a.within refusal a.reading;
      stays = λ i j word first last less at shows keeps at_last is.
          let end = within journal j last at_last in
          let near = shown (sheet_at code journal i) (left_at room journal i) word first (answers i first at) shows in
          shows_near (sheet_at code journal j) (left_at room journal j) word last (answers j last at_last) is
          (near_at i j word (omega arith) (subst (λ (s : List Cell). Near A code s word) (sym (sheet_more code (blank_sheet code) journal i first at)) near) keeps j less (omega arith));
    }
