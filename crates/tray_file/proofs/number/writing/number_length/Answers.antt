use Rattle.std.proofs.Common.{length, sym, ap, ⊎_elim, arith}
use Rattle.tray_file.proofs.number_lemmas.NumberBytes.{one_byte, bytes_of}
use Rattle.tray_file.proofs.number.writing.number_length.Goals as goal

pub returns-then-value-lt-GROUP : goal.returns-then-value-lt-GROUP
returns-then-value-lt-GROUP c = sym (ap length (one_byte c.args.value c.if-value-lt-GROUP.true).is)

pub returns-then-value : goal.returns-then-value
returns-then-value c =
    ⊎_elim (λ o. omega arith) (⊎_elim (λ o. sym (ap length o.is)) (λ o. omega arith)) (bytes_of c.args.value)

pub returns-else-value : goal.returns-else-value
returns-else-value c =
    ⊎_elim (λ o. omega arith) (⊎_elim (λ o. omega arith) (λ o. sym (ap length o.is))) (bytes_of c.args.value)
