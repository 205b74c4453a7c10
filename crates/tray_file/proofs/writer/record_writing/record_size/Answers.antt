use Rattle.std.proofs.Common.{arith}
use Rattle.tray_file.proofs.writer_lemmas.Puts.{three_at_most}
use Rattle.tray_file.proofs.writer.record_writing.record_size.Goals as goal

pub overflow_add-result : goal.overflow_add-result
overflow_add-result c =
    omega (arith, c.number_length.ensures, c.number_length-2.ensures, three_at_most c.number.result, three_at_most c.args.size)

pub overflow_add-result-2 : goal.overflow_add-result-2
overflow_add-result-2 c =
    omega (arith, c.requires, c.number_length.ensures, c.number_length-2.ensures, three_at_most c.number.result, three_at_most c.args.size)
