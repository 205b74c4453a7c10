-- The number of each refusal of the number reader.
use Rattle.std.specs.Prelude.{ℕ}
use Rattle.tray_file.specs.declared.number.cause.NumberCause.{NumberCause}
use Rattle.tray_file.specs.declared.number.cause.NumberCause.TheVariants.{CutOff, BadNumber}

abbrev pub number_cause_number : NumberCause → ℕ
number_cause_number CutOff = 31
number_cause_number BadNumber = 32
