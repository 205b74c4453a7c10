use Rattle.decoding.proofs.encoding_lemmas.CodeExamples.{encoding_example}
use Rattle.decoding.proofs.encoding.examples.code_examples.Goals as goal

pub returns : goal.returns
returns c = encoding_example
