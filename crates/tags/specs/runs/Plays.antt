-- Plays: the journal is what the worker picked, and how a run ends.
use Rattle.std.specs.Prelude.{◌≡◌, ℕ, ◌+◌, ◌<◌, ◌≤◌, List, [], ◌∷◌, ◌++◌, map, length, take, drop, Some, None, Option}
use Rattle.tags.specs.runs.Calls.{call_of}
use Rattle.tags.specs.runs.Rooms.{used}
use Rattle.tags.specs.declared.runs.call.Call.{Call}
use Rattle.tags.specs.declared.runs.call.Call.TheVariants.{Read}
use Rattle.tags.specs.declared.runs.ending.Ending.{Ending}
use Rattle.tags.specs.declared.runs.ending.Ending.TheVariants.{Stopped, JournalFull, RoomUsed}
use Rattle.tags.specs.declared.runs.event.Event.{Event}
use Rattle.tags.specs.declared.runs.run.Played.{Played}

-- What workers of a type may pick: the worker before, all events so far, the call or nothing, and
-- the worker after.
abbrev pub Picks : Type 0 → Type 1
Picks W = W → List Event → Option Call → W → Type 0

-- The worker, who has seen the earlier events, picks the calls of these events one after another,
-- each in view of all events before it.
abbrev pub PicksAll : {W : Type 0} → Picks W → List Event → W → List Event → W → Type 0
PicksAll picks earlier worker [] last = worker ≡ last
PicksAll {W} picks earlier worker (event ∷ events) last =
    (next : W) × picks worker earlier (Some (call_of event)) next
    × PicksAll picks (earlier ++ (event ∷ [])) next events last

-- After these events the worker stopped, while the journal had a place left; or they fill all
-- places of the journal; or the worker picked a read of more numbers than were left of the room,
-- while the journal had a place left.
abbrev pub Ended : {W : Type 0} → Picks W → W → W → List Event → ℕ → ℕ → Ending → Type 0
Ended {W} picks first last events size places Stopped =
    (worker : W) × PicksAll picks [] first events worker × picks worker events None last
    × (length events < places)
Ended {W} picks first last events size places JournalFull =
    PicksAll picks [] first events last × (length events ≡ places)
Ended {W} picks first last events size places RoomUsed =
    (worker : W) × PicksAll picks [] first events worker
    × ((wanted : ℕ) × picks worker events (Some (Read wanted)) last
    × (size < used (map call_of events) + wanted))
    × (length events < places)

-- The journal is the play: its first events are of the calls that the worker picked, in order and
-- without a gap, until the run ended, and the places after them are as they were. The reads were
-- lent the first numbers of the room, and the rest is as it was.
pub record Play {W : Type 0} (picks : Picks W) (first last : W) (room : List ℕ)
    (before after : List Event) (played : Played) : Type 0 where
  pub within : played.events ≤ length after
  pub ended : Ended picks first last (take played.events after) (length room) (length before)
      played.ending
  pub others : drop played.events after ≡ drop played.events before
  pub lent : used (map call_of (take played.events after)) ≤ length room
  pub rest : played.rest.now ≡ drop (used (map call_of (take played.events after))) room
