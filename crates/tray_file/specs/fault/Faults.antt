-- Faults: what is refused, and where.
use Rattle.std.specs.Prelude.{ℕ, ◌+◌, ◌^◌, ◌<◌}
use Rattle.tray_file.specs.fault.Layers.{layer_number}
use Rattle.tray_file.specs.declared.fault.body_fault.BodyFault.{BodyFault}
use Rattle.tray_file.specs.declared.fault.body_fault.BodyFault.TheVariants as body
use Rattle.tray_file.specs.declared.fault.layer.Layer.TheVariants.{Field, Card, Tag, File}
use Rattle.tray_file.specs.declared.fault.file_cause.FileCause.{FileCause}
use Rattle.tray_file.specs.declared.fault.file_cause.FileCause.TheVariants.{CutOff, BadNumber, BadBody, BadNote}
use Rattle.tray_file.specs.declared.number.cause.NumberCause.{NumberCause}
use Rattle.tray_file.specs.declared.number.cause.NumberCause.TheVariants as number
use Rattle.tray_file.specs.declared.fault.Fault.{Fault}

abbrev pub fault_number : Fault → ℕ
fault_number fault = layer_number fault.layer

-- a fault of the file's own layer
abbrev pub fault_at : ℕ → FileCause → Fault
fault_at place cause = record { place = place; layer = File cause }

-- A number that is not there: cut off counts at the record, a bad number at its own first byte.
abbrev pub number_fault : ℕ → ℕ → NumberCause → Fault
number_fault record_place number_place number.CutOff = fault_at record_place CutOff
number_fault record_place number_place number.BadNumber = fault_at number_place BadNumber

-- A body that is refused: a bad number counts at its own first byte, all else at the record.
abbrev pub body_fault : ℕ → ℕ → BodyFault → Fault
body_fault record_place body_place (body.BadNumber offset) =
    fault_at (body_place + offset) BadNumber
body_fault record_place body_place body.BadBody = fault_at record_place BadBody
body_fault record_place body_place body.BadNote = fault_at record_place BadNote
body_fault record_place body_place (body.Field cause) =
    record { place = record_place; layer = Field cause }
body_fault record_place body_place (body.Card cause) =
    record { place = record_place; layer = Card cause }
body_fault record_place body_place (body.Tag cause) =
    record { place = record_place; layer = Tag cause }

-- the place of a bad number is a number of the machine
abbrev pub BodyPlaceFits : ℕ → BodyFault → Type 0
BodyPlaceFits body_place (body.BadNumber offset) = body_place + offset < 2 ^ 64
BodyPlaceFits body_place body.BadBody = Unit {0}
BodyPlaceFits body_place body.BadNote = Unit {0}
BodyPlaceFits body_place (body.Field cause) = Unit {0}
BodyPlaceFits body_place (body.Card cause) = Unit {0}
BodyPlaceFits body_place (body.Tag cause) = Unit {0}
