use Rattle.std.proofs.Common.{[], ◌∷◌, refl, arith}
use Rattle.std.specs.Prelude.{Contains}
use Rattle.fields.specs.declared.cause.FieldCause.{FieldCause}
use Rattle.fields.specs.declared.cause.FieldCause.TheVariants.{NoPrime, BadModulus}
use Rattle.vectors.proofs.word_cases.field_causes.Goals as goal

every : (value : FieldCause) → Contains (NoPrime ∷ BadModulus ∷ []) value
every NoPrime = (0, omega arith, refl)
every BadModulus = (1, omega arith, refl)

pub returns : goal.returns
returns c = every
