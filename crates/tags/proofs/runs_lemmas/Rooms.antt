-- The room of a run: what the next event is lent of it, and a read for which too little is left.
use Rattle.std.proofs.Common.{◌≡◌, ℕ, ◌+◌, ◌<◌, ◌≤◌, List, [], ◌∷◌, ◌++◌, map, length, take, drop, sym, refl, ap, ◌∙◌, ap₂, arith}
use Rattle.std.proofs.lemmas.List.{map_push, drop-drop, length-drop}
use Rattle.std.proofs.lemmas.List.Sums.{sum_by_push}
use Rattle.tags.specs.runs.Calls.{call_of}
use Rattle.tags.specs.runs.Rooms.{lent_to, used}
use Rattle.tags.specs.declared.runs.call.Call.{Call}
use Rattle.tags.specs.declared.runs.call.Call.TheVariants.{Note, Wipe, Line, Read}
use Rattle.tags.specs.declared.runs.event.Event.{Event}

-- the event after these was lent this part of the room, and left is what is left after it
pub record NextLent (room : List ℕ) (journal : List Event) (e : Event) (part left : List ℕ) : Type 0 where
  pub fits : lent_to (call_of e) ≤ length (drop (used (map call_of journal)) room)
  pub part_is : part ≡ take (lent_to (call_of e)) (drop (used (map call_of journal)) room)
  pub lent : used (map call_of (journal ++ (e ∷ []))) ≤ length room
  pub left_is : left ≡ drop (used (map call_of (journal ++ (e ∷ [])))) room

pub next_lent : (room : List ℕ) (journal : List Event) (e : Event) (rest part left : List ℕ) (count : ℕ) → rest ≡ drop (used (map call_of journal)) room → used (map call_of journal) ≤ length room
    → lent_to (call_of e) ≡ count → count ≤ length rest → part ≡ take count rest → left ≡ drop count rest → NextLent room journal e part left
next_lent room journal e rest part left count rest_is lent wants fits part_is left_is =
    let before = used (map call_of journal) in
    let more : used (map call_of (journal ++ (e ∷ []))) ≡ before + lent_to (call_of e) = ap used (map_push call_of journal e) ∙ sum_by_push lent_to (map call_of journal) (call_of e) in
    let long : length rest ≡ length (drop before room) = ap length rest_is in
    record {
      fits = omega arith;
      part_is = part_is ∙ ap₂ (λ (n : ℕ) (xs : List ℕ). take n xs) (sym wants) rest_is;
      lent = omega (arith, length-drop before room);
      left_is = left_is ∙ ap (drop count) rest_is ∙ drop-drop count before room ∙ ap (λ (n : ℕ). drop n room) (ap (λ (n : ℕ). before + n) (sym wants) ∙ sym more);
    }

-- a call that is lent more than a number of numbers is a read
pub wanted_read : (call : Call) (size : ℕ) → size < lent_to call → (wanted : ℕ) × (call ≡ Read wanted) × (size < wanted)
wanted_read (Note cell letter) size more = absurd (omega arith)
wanted_read (Wipe cell) size more = absurd (omega arith)
wanted_read (Line text) size more = absurd (omega arith)
wanted_read (Read length) size more = (length, refl, more)
