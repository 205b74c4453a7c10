use Rattle.std.proofs.Common.{[], ◌∷◌, refl, arith}
use Rattle.std.specs.Prelude.{Contains}
use Rattle.decoding.specs.declared.reading.read_answer.ReadRefusal.{ReadRefusal}
use Rattle.decoding.specs.declared.reading.read_answer.ReadRefusal.TheVariants.{WrongLength, TooBlank, Lost}
use Rattle.vectors.proofs.word_cases.read_refusals.Goals as goal

every : (value : ReadRefusal) → Contains (WrongLength ∷ TooBlank ∷ Lost ∷ []) value
every WrongLength = (0, omega arith, refl)
every TooBlank = (1, omega arith, refl)
every Lost = (2, omega arith, refl)

pub returns : goal.returns
returns c = every
