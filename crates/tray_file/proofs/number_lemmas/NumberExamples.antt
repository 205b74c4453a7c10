-- The worked examples, by the lemmas on the bytes that are read.
use Rattle.std.proofs.Common.{[], ◌∷◌, refl, arith}
use Rattle.tray_file.specs.number.NumberExamples.{NumberExamples}
use Rattle.tray_file.proofs.number_lemmas.ReadBytes.{read_three, third_large, zero_last}

pub number_examples : NumberExamples
number_examples = record {
  largest = (read_three (255 ∷ 255 ∷ 3 ∷ []) 0 (omega arith) (omega arith) (omega arith) (omega arith) (omega arith) (omega arith) (omega arith)).0;
  above = (refl, third_large (128 ∷ 128 ∷ 4 ∷ []) 0 (omega arith) (omega arith) (omega arith) (omega arith));
  zero_group = (refl, zero_last (128 ∷ 0 ∷ []) 0 (omega arith) (omega arith) refl);
}
