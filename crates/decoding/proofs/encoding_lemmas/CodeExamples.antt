-- The worked examples, by computation.
use Rattle.std.proofs.Common.{refl}
use Rattle.codes.specs.Sums.{sum_to, syndromes}
use Rattle.decoding.specs.filling.Fillings.{filled_letter, filled}
use Rattle.decoding.specs.encoding.Encodings.{encoding}
use Rattle.decoding.specs.encoding.CodeExamples.{EncodingExample}

pub encoding_example : EncodingExample
unfolding encoding filled filled_letter syndromes sum_to
encoding_example = refl
