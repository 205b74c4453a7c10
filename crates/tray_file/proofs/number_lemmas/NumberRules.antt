-- The rules of numbers as bytes.
use Rattle.std.proofs.Common.{sym, ◌∙◌, one-mul}
use Rattle.tray_file.specs.number.Numbers.{worth}
use Rattle.tray_file.specs.number.BadNumbers.{NumberRules}
use Rattle.tray_file.proofs.number_lemmas.BadNumbers.{bad_number_rule}
use Rattle.tray_file.proofs.number_lemmas.Worth.{sum_from, written_worth}

pub number_rules : NumberRules
number_rules = record { bad = bad_number_rule; sum = λ bytes. sym (sum_from 0 bytes ∙ one-mul (worth bytes)); written = written_worth }
