-- The number of each refusal of a maker of fields.
use Rattle.std.specs.Prelude.{ℕ}
use Rattle.fields.specs.declared.cause.FieldCause.{FieldCause}
use Rattle.fields.specs.declared.cause.FieldCause.TheVariants.{NoPrime, BadModulus}

abbrev pub field_number : FieldCause → ℕ
field_number NoPrime = 11
field_number BadModulus = 12
