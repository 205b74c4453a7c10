-- A worker whose calls are known beforehand.
use Rattle.std.specs.Prelude.{◌≡◌, ℕ, suc, ◌-◌, List, [], ◌∷◌, length, Option, if◌then◌else◌, nat_le, nat_lt}
use Rattle.std.specs.List.{slice_get}
use Rattle.tags.specs.runs.Rooms.{lent_to}
use Rattle.tags.specs.declared.runs.call.Call.{Call}
use Rattle.tags.specs.declared.runs.ending.Ending.{Ending}
use Rattle.tags.specs.declared.runs.ending.Ending.TheVariants.{Stopped, JournalFull, RoomUsed}
use Rattle.tags.specs.declared.runs.event.Event.{Event}
use Rattle.tags.specs.declared.runs.script.Script.{Script}

-- after k events it picks the call at place k, and stops where there is none
abbrev pub ScriptPicks : Script → List Event → Option Call → Script → Type 0
ScriptPicks script journal pick after =
    (pick ≡ slice_get script.calls.now (length journal)) × (after ≡ script)

-- how many of the calls can be played in a room of so many numbers: those before the first read of
-- more numbers than are then left
abbrev pub playable : ℕ → List Call → ℕ
playable size [] = 0
playable size (call ∷ calls) =
    if nat_le (lent_to call) size then suc (playable (size - lent_to call) calls) else 0

-- how a script ends in a room of so many numbers, with a journal of so many places
abbrev pub script_ending : ℕ → List Call → ℕ → Ending
script_ending size calls places =
    if nat_le places (playable size calls) then JournalFull else
    (if nat_lt (playable size calls) (length calls) then RoomUsed else Stopped)
