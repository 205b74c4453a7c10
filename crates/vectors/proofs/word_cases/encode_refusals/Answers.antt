use Rattle.std.proofs.Common.{[], ◌∷◌, refl, arith}
use Rattle.std.specs.Prelude.{Contains}
use Rattle.decoding.specs.declared.encoding.encode_refusal.EncodeRefusal.{EncodeRefusal}
use Rattle.decoding.specs.declared.encoding.encode_refusal.EncodeRefusal.TheVariants.{PartAlphabet, WrongLength, NoLetter}
use Rattle.vectors.proofs.word_cases.encode_refusals.Goals as goal

every : (value : EncodeRefusal) → Contains (PartAlphabet ∷ WrongLength ∷ NoLetter ∷ []) value
every PartAlphabet = (0, omega arith, refl)
every WrongLength = (1, omega arith, refl)
every NoLetter = (2, omega arith, refl)

pub returns : goal.returns
returns c = every
