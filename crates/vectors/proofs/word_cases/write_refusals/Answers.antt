use Rattle.std.proofs.Common.{[], ◌∷◌, refl, arith}
use Rattle.std.specs.Prelude.{Contains}
use Rattle.tray_file.specs.declared.writer.write_refusal.WriteRefusal.{WriteRefusal}
use Rattle.tray_file.specs.declared.writer.write_refusal.WriteRefusal.TheVariants.{NoLetter, WrongLength, BadNote, TooSmall}
use Rattle.vectors.proofs.word_cases.write_refusals.Goals as goal

every : (value : WriteRefusal) → Contains (NoLetter ∷ WrongLength ∷ BadNote ∷ TooSmall ∷ []) value
every NoLetter = (0, omega arith, refl)
every WrongLength = (1, omega arith, refl)
every BadNote = (2, omega arith, refl)
every TooSmall = (3, omega arith, refl)

pub returns : goal.returns
returns c = every
