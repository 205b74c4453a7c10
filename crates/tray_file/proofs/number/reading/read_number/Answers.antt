use Rattle.std.proofs.Common.{refl, arith}
use Rattle.tray_file.proofs.number_lemmas.NumberRules.{number_rules}
use Rattle.tray_file.proofs.number_lemmas.ReadBytes.{read_one, read_two, read_three, zero_last, third_zero, third_large}
use Rattle.tray_file.proofs.number.reading.read_number.Goals as goal

pub returns-then-first-lt-GOES_ON-clause-read : goal.returns-then-first-lt-GOES_ON-clause-read
returns-then-first-lt-GOES_ON-clause-read c = read_one c.args.bytes.now c.args.start (omega arith) (omega arith)

pub returns-then-ends_in_zero-clause-read : goal.returns-then-ends_in_zero-clause-read
returns-then-ends_in_zero-clause-read c = (refl, zero_last c.args.bytes.now c.args.start (omega arith) (omega arith) c.if-ends_in_zero.true)

pub returns-then-second-lt-GOES_ON-clause-read : goal.returns-then-second-lt-GOES_ON-clause-read
returns-then-second-lt-GOES_ON-clause-read c =
    read_two c.args.bytes.now c.args.start (omega arith) (omega arith) (omega arith) (omega arith) (omega arith)

pub returns-then-third_is_zero-clause-read : goal.returns-then-third_is_zero-clause-read
returns-then-third_is_zero-clause-read c = (refl, third_zero c.args.bytes.now c.args.start (omega arith) (omega arith) (omega arith) c.if-third_is_zero.true)

pub returns-then-value-gt-LARGEST_NUMBER-clause-read : goal.returns-then-value-gt-LARGEST_NUMBER-clause-read
returns-then-value-gt-LARGEST_NUMBER-clause-read c =
    (refl, third_large c.args.bytes.now c.args.start (omega arith) (omega arith) (omega arith) (omega arith))

pub returns-clause-read : goal.returns-clause-read
returns-clause-read c =
    read_three c.args.bytes.now c.args.start (omega arith) (omega arith) (omega arith) (omega arith) (omega arith) (omega arith) (omega arith)

pub returns-then-start-bytes-clause-rules : goal.returns-then-start-bytes-clause-rules
returns-then-start-bytes-clause-rules c = number_rules

pub returns-then-first-lt-GOES_ON-clause-rules : goal.returns-then-first-lt-GOES_ON-clause-rules
returns-then-first-lt-GOES_ON-clause-rules c = number_rules

pub returns-then-start-bytes-2-clause-rules : goal.returns-then-start-bytes-2-clause-rules
returns-then-start-bytes-2-clause-rules c = number_rules

pub returns-then-ends_in_zero-clause-rules : goal.returns-then-ends_in_zero-clause-rules
returns-then-ends_in_zero-clause-rules c = number_rules

pub returns-then-second-lt-GOES_ON-clause-rules : goal.returns-then-second-lt-GOES_ON-clause-rules
returns-then-second-lt-GOES_ON-clause-rules c = number_rules

pub returns-then-start-bytes-3-clause-rules : goal.returns-then-start-bytes-3-clause-rules
returns-then-start-bytes-3-clause-rules c = number_rules

pub returns-then-third_is_zero-clause-rules : goal.returns-then-third_is_zero-clause-rules
returns-then-third_is_zero-clause-rules c = number_rules

pub returns-then-value-gt-LARGEST_NUMBER-clause-rules : goal.returns-then-value-gt-LARGEST_NUMBER-clause-rules
returns-then-value-gt-LARGEST_NUMBER-clause-rules c = number_rules

pub returns-clause-rules : goal.returns-clause-rules
returns-clause-rules c = number_rules
