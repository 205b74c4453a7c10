use Rattle.std.proofs.Common.{[], ◌∷◌, refl, arith}
use Rattle.std.specs.Prelude.{Contains}
use Rattle.tray_file.specs.declared.fault.file_cause.FileCause.{FileCause}
use Rattle.tray_file.specs.declared.fault.file_cause.FileCause.TheVariants.{CutOff, BadNumber, StrangeRecord, OutOfTurn, BadBody, BadNote, LongFile}
use Rattle.vectors.proofs.word_cases.file_causes.Goals as goal

every : (value : FileCause) → Contains (CutOff ∷ BadNumber ∷ StrangeRecord ∷ OutOfTurn ∷ BadBody ∷ BadNote ∷ LongFile ∷ []) value
every CutOff = (0, omega arith, refl)
every BadNumber = (1, omega arith, refl)
every StrangeRecord = (2, omega arith, refl)
every OutOfTurn = (3, omega arith, refl)
every BadBody = (4, omega arith, refl)
every BadNote = (5, omega arith, refl)
every LongFile = (6, omega arith, refl)

pub returns : goal.returns
returns c = every
