use Rattle.std.proofs.Common.{[], ◌∷◌, refl, arith}
use Rattle.std.specs.Prelude.{Contains}
use Rattle.tags.specs.declared.tag.note_refusal.NoteRefusal.{NoteRefusal}
use Rattle.tags.specs.declared.tag.note_refusal.NoteRefusal.TheVariants.{NoSuchCell, NoLetter}
use Rattle.vectors.proofs.word_cases.note_refusals.Goals as goal

every : (value : NoteRefusal) → Contains (NoSuchCell ∷ NoLetter ∷ []) value
every NoSuchCell = (0, omega arith, refl)
every NoLetter = (1, omega arith, refl)

pub returns : goal.returns
returns c = every
