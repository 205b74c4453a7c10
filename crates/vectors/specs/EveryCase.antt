-- Lists of all values of a type.
use Rattle.std.specs.Prelude.{List, Contains}

-- every value of the type stands in the list
abbrev pub HoldsEvery : {T : Type 0} → List T → Type 0
HoldsEvery {T} values = (value : T) → Contains values value
