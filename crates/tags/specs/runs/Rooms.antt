-- The room of a run: numbers that its reads are lent, each the next ones of what is left.
use Rattle.std.specs.Prelude.{ℕ, List, sum_by}
use Rattle.tags.specs.declared.runs.call.Call.{Call}
use Rattle.tags.specs.declared.runs.call.Call.TheVariants.{Note, Wipe, Line, Read}

-- how many numbers a call is lent: a read as many as it reads into, and any other call none
abbrev pub lent_to : Call → ℕ
lent_to (Note cell letter) = 0
lent_to (Wipe cell) = 0
lent_to (Line text) = 0
lent_to (Read length) = length

-- how many numbers these calls are lent together
abbrev pub used : List Call → ℕ
used calls = sum_by lent_to calls
