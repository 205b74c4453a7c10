use Rattle.std.proofs.Common.{ℕ, List, subst}
use Rattle.codes.specs.Code.{code_of}
use Rattle.tray_file.specs.writer.Writing.{RecordWritten}
use Rattle.tray_file.proofs.writer_lemmas.WritableValues.{card_parts}
use Rattle.tray_file.proofs.writer.card_writing.write_values.Goals as goal

pub returns : goal.returns
returns c =
    let code = code_of c.args.code in
    subst (λ (l : List ℕ). RecordWritten 1 l c.args.buffer.now c.write_numbers.new.buffer c.write_numbers.result)
    (card_parts c.args.kind c.args.origin code) c.write_numbers.ensures
