-- The number of each refusal, layer by layer.
use Rattle.std.specs.Prelude.{ℕ}
use Rattle.fields.specs.Causes.{field_number}
use Rattle.codes.specs.Cards.{card_number}
use Rattle.tray_file.specs.declared.fault.field_fault.FieldFault.{FieldFault}
use Rattle.tray_file.specs.declared.fault.field_fault.FieldFault.TheVariants.{NoSuchField, Made}
use Rattle.tray_file.specs.declared.fault.tag_cause.TagCause.{TagCause}
use Rattle.tray_file.specs.declared.fault.tag_cause.TagCause.TheVariants.{NoLetter}
use Rattle.tray_file.specs.declared.fault.file_cause.FileCause.{FileCause}
use Rattle.tray_file.specs.declared.fault.file_cause.FileCause.TheVariants.{CutOff, BadNumber, StrangeRecord, OutOfTurn, BadBody, BadNote, LongFile}
use Rattle.tray_file.specs.declared.fault.body_fault.BodyFault.{BodyFault}
use Rattle.tray_file.specs.declared.fault.body_fault.BodyFault.TheVariants as body
use Rattle.tray_file.specs.declared.fault.layer.Layer.{Layer}
use Rattle.tray_file.specs.declared.fault.layer.Layer.TheVariants as layers

abbrev pub field_fault_number : FieldFault → ℕ
field_fault_number NoSuchField = 10
field_fault_number (Made cause) = field_number cause

abbrev pub tag_number : TagCause → ℕ
tag_number NoLetter = 22

abbrev pub file_number : FileCause → ℕ
file_number CutOff = 31
file_number BadNumber = 32
file_number StrangeRecord = 33
file_number OutOfTurn = 34
file_number BadBody = 35
file_number BadNote = 36
file_number LongFile = 37

abbrev pub layer_number : Layer → ℕ
layer_number (layers.Field fault) = field_fault_number fault
layer_number (layers.Card cause) = card_number cause
layer_number (layers.Tag cause) = tag_number cause
layer_number (layers.File cause) = file_number cause

abbrev pub body_fault_number : BodyFault → ℕ
body_fault_number (body.BadNumber place) = file_number BadNumber
body_fault_number body.BadBody = file_number BadBody
body_fault_number body.BadNote = file_number BadNote
body_fault_number (body.Field fault) = field_fault_number fault
body_fault_number (body.Card cause) = card_number cause
body_fault_number (body.Tag cause) = tag_number cause
