-- Runs of tags of the field of four elements.
use Rattle.std.specs.Prelude.{◌≡◌, ℕ, min, List, map, length, take, drop, Ok, Err, Option, Result}
use Rattle.outside.specs.four_field.FourElements.{four_elements}
use Rattle.kimzhadyr.specs.Cards.{card_number}
use Rattle.kimzhadyr.specs.types.CardCause.{CardCause}
use Rattle.kimzhadyr.specs.Reading.{read_number}
use Rattle.kimzhadyr.specs.Calls.{call_of}
use Rattle.kimzhadyr.specs.Lines.{line_number}
use Rattle.kimzhadyr.specs.Rooms.{used}
use Rattle.kimzhadyr.specs.Runs.{RunLaw}
use Rattle.kimzhadyr.specs.Scripts.{playable, script_ending}
use Rattle.kimzhadyr.specs.Sheet.{refused}
use Rattle.kimzhadyr.specs.Tags.{note_number, wipe_number}
use Rattle.kimzhadyr.specs.types.Call.{Call}
use Rattle.kimzhadyr.specs.types.Event.{Event}
use Rattle.kimzhadyr.specs.types.Event.TheVariants.{Note, Wipe, Line, Read}
use Rattle.kimzhadyr.specs.types.Played.{Played}
use Rattle.outside.specs.FourCards.{four_code, TwoOrFour}

-- the calls were made one after another, as many as the room has numbers and the journal has places
-- for, and the law over runs holds of them
pub record FourRun (letters : ℕ) (calls : List Call) (room : List ℕ) (before after : List Event)
    (played : Played) : Type 0 where
  pub alphabet : TwoOrFour letters
  pub events : played.events ≡ min (playable (length room) calls) (length before)
  pub ending : played.ending ≡ script_ending (length room) calls (length before)
  pub calls_made : map call_of (take played.events after) ≡ take played.events calls
  pub others : drop played.events after ≡ drop played.events before
  pub rest : played.rest.now ≡ drop (used (take played.events calls)) room
  pub law : RunLaw four_elements (four_code letters) room (take played.events after)

-- A run with two letters or with four; any other number of letters is refused with 14, and the
-- journal is as it was. Of the room nothing is said then, since no event has a part of it.
abbrev pub PlayedOnFour : ℕ → List Call → List ℕ → List Event → List Event
    → Result Played CardCause → Type 0
PlayedOnFour letters calls room before after (Ok played) =
    FourRun letters calls room before after played
PlayedOnFour letters calls room before after (Err cause) =
    (TwoOrFour letters → ⊥) × (card_number cause ≡ 14) × (after ≡ before)

-- the number that an event's call was refused with
abbrev pub refusal_of : Event → Option ℕ
refusal_of (Note cell letter answer) = refused note_number answer
refusal_of (Wipe cell answer) = refused wipe_number answer
refusal_of (Line text answer) = refused line_number answer
refusal_of (Read answer shown) = refused read_number answer
