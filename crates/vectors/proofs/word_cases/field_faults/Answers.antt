use Rattle.std.proofs.Common.{[], ◌∷◌, refl, arith}
use Rattle.std.specs.Prelude.{Contains}
use Rattle.fields.specs.declared.cause.FieldCause.TheVariants.{NoPrime, BadModulus}
use Rattle.tray_file.specs.declared.fault.field_fault.FieldFault.{FieldFault}
use Rattle.tray_file.specs.declared.fault.field_fault.FieldFault.TheVariants.{NoSuchField, Made}
use Rattle.vectors.proofs.word_cases.field_faults.Goals as goal

every : (value : FieldFault) → Contains (NoSuchField ∷ Made NoPrime ∷ Made BadModulus ∷ []) value
every NoSuchField = (0, omega arith, refl)
every (Made NoPrime) = (1, omega arith, refl)
every (Made BadModulus) = (2, omega arith, refl)

pub returns : goal.returns
returns c = every
