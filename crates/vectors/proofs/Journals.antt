-- The journal of a run of given calls.
use Rattle.std.proofs.Common.{◌≡◌, ℕ, ◌+◌, ◌-◌, ◌≤◌, List, [], ◌∷◌, ◌++◌, length, map, take, drop, min, get_or, Some, None, Option, refl, sym, ap, ◌∙◌, subst, subst₂, arith}
use Rattle.std.specs.List.{slice_get, flat_map, range_with_len}
use Rattle.std.proofs.lemmas.List.{take_all, take_more, length-take, length-drop, length-map}
use Rattle.std.proofs.lemmas.List.Sums.{sum_by-append, sum_by_push}
use Rattle.std.proofs.lemmas.Option.{slice_get_within, get_or_from_slice_get}
use Rattle.algebra.specs.Meaning.{Arithmetic, Meaning}
use Rattle.codes.specs.Code.{Code}
use Rattle.codes.specs.Cells.{blank_cell}
use Rattle.codes.specs.declared.cell.Cell.{Cell}
use Rattle.tags.specs.runs.Calls.{call_of}
use Rattle.tags.specs.runs.Rooms.{lent_to, used}
use Rattle.tags.specs.runs.Runs.{RunLaw}
use Rattle.tags.specs.declared.runs.call.Call.{Call}
use Rattle.tags.specs.declared.runs.call.Call.TheVariants.{Read}
use Rattle.tags.specs.declared.runs.event.Event.{Event}
use Rattle.vectors.specs.ReadAnswers.{note_of, note_at, notes_and_read, LastReadText, PlayedText}

-- a list ends with the element at its last place
pub ends : {X : Type 0} (xs : List X) (x : X) → slice_get xs (length xs - 1) ≡ Some x → xs ≡ take (length xs - 1) xs ++ x ∷ []
ends {X} xs x is =
    let within = slice_get_within xs (length xs - 1) x is in
    sym (take_all (length xs - 1 + 1) xs (omega arith)) ∙ take_more xs (length xs - 1) x within
    ∙ ap (λ (y : X). take (length xs - 1) xs ++ y ∷ []) (get_or_from_slice_get xs (length xs - 1) x x is)

-- notes are lent nothing, so the calls are lent as many numbers as the read
lent_note : (j : ℕ) (letter : Option ℕ) → used (note_of j letter) ≡ 0
lent_note j None = refl
lent_note j (Some letter) = refl

lent_notes : (cells : List Cell) (places : List ℕ) → used (flat_map (note_at cells) places) ≡ 0
lent_notes cells [] = refl
lent_notes cells (j ∷ places) =
    let rest = lent_notes cells places in
    let here = lent_note j (get_or cells j blank_cell).letter in
    let both = sum_by-append lent_to (note_at cells j) (flat_map (note_at cells) places) in
    omega (arith, both, here, rest)

pub lent_notes_and_read : (cells : List Cell) (size : ℕ) → used (notes_and_read cells size) ≡ size
lent_notes_and_read cells size =
    let notes = flat_map (note_at cells) (range_with_len 0 (length cells)) in
    let none = lent_notes cells (range_with_len 0 (length cells)) in
    let all = sum_by_push lent_to notes (Read size) in
    omega (arith, all, none)

-- the same of an equal field, code, room and calls
pub same_played : {m m' : Meaning} {code code' : Code} {room room' : List ℕ} {calls calls' : List Call} (text : List ℕ) → m ≡ m' → code ≡ code' → room ≡ room' → calls ≡ calls' → PlayedText m.arithmetic code room calls text → PlayedText m'.arithmetic code' room' calls' text
same_played {m} {m'} {code} {code'} {room} {room'} {calls} {calls'} text field same numbers made told =
    subst₂ (λ (r : List ℕ) (cs : List Call). PlayedText m'.arithmetic code' r cs text) numbers made (subst₂ (λ (k : Meaning) (d : Code). PlayedText k.arithmetic d room calls text) field same told)

module _ (calls : List Call) (before after : List Event) (events : ℕ) (places : events ≡ min (length calls) (length before)) (enough : length before ≡ length calls) (same : map call_of (take events after) ≡ take events calls) (others : drop events after ≡ drop events before) where
  no_more : length after ≤ events
  no_more =
      let none = sym (length-drop events after) ∙ ap (λ (xs : List Event). length xs) others ∙ length-drop events before in
      omega (arith, none, places, enough)

  -- as many events as places
  pub as_long : length after ≡ length calls
  as_long =
      let made = sym (length-take events after) ∙ sym (length-map (take events after) call_of) ∙ ap (λ (xs : List Call). length xs) same ∙ length-take events calls in
      omega (arith, made, places, enough, no_more)

  -- a journal with a place for each call is of these calls
  pub played : (A : Arithmetic) (code : Code) (room : List ℕ) (text : List ℕ) → RunLaw A code room (take events after) → LastReadText after text → PlayedText A code room calls text
  played A code room text law last =
      let whole = take_all events after no_more in
      (after, ap (map call_of) (sym whole) ∙ same ∙ take_all events calls (omega (arith, places, enough)), subst (λ (journal : List Event). RunLaw A code room journal) whole law, last)
