-- The bytes of a call with its answer.
use Rattle.std.specs.Prelude.{ℕ, List, [], ◌++◌, length, Some, None, Option, Ok, Err, codes, decimal}
use Rattle.kimzhadyr.specs.WordText.{word_text}
use Rattle.kimzhadyr.specs.types.Event.{Event}
use Rattle.kimzhadyr.specs.types.Event.TheVariants.{Note, Wipe, Line, Read}
use Rattle.outside.specs.FourRuns.{refusal_of}

-- the call
abbrev pub call_text : Event → List ℕ
call_text (Note cell letter answer) =
    codes "  note " ++ (decimal cell ++ (codes " " ++ decimal letter))
call_text (Wipe cell answer) = codes "  wipe " ++ decimal cell
call_text (Line text answer) = codes "  line " ++ text.now
call_text (Read answer shown) = codes "  read " ++ decimal (length shown.now)

-- the number that it was refused with, if it was
abbrev pub refused_text : Option ℕ → List ℕ
refused_text None = []
refused_text (Some number) = codes ": refused " ++ decimal number

-- a granted read's two counts and word
abbrev pub read_text : Event → List ℕ
read_text (Read (Ok counts) shown) =
    codes ": " ++ (decimal counts.wrong
    ++ (codes " wrong, " ++ (decimal counts.blank
    ++ (codes " blank," ++ word_text shown.now))))
read_text (Read (Err refusal) shown) = []
read_text (Note cell letter answer) = []
read_text (Wipe cell answer) = []
read_text (Line text answer) = []

abbrev pub event_text : Event → List ℕ
event_text event = call_text event ++ (refused_text (refusal_of event) ++ read_text event)
