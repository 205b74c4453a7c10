use Rattle.tray_file.proofs.number_lemmas.NumberExamples.{number_examples}
use Rattle.tray_file.proofs.number.examples.number_examples.Goals as goal

pub returns : goal.returns
returns c = number_examples
