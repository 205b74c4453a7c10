use Rattle.tray_file.proofs.body_lemmas.EqualCards.{card_reads_back}
use Rattle.tray_file.proofs.body_lemmas.OneAnswer.{one_card_answer}
use Rattle.tray_file.proofs.body.card_body.read_card.Goals as goal

pub returns-in_err-read-clause-back : goal.returns-in_err-read-clause-back
returns-in_err-read-clause-back c = card_reads_back

pub returns-in_err-read-clause-one : goal.returns-in_err-read-clause-one
returns-in_err-read-clause-one c = one_card_answer

pub returns-in-1-clause-back : goal.returns-in-1-clause-back
returns-in-1-clause-back c = card_reads_back

pub returns-in-1-clause-one : goal.returns-in-1-clause-one
returns-in-1-clause-one c = one_card_answer

pub returns-in-2-clause-back : goal.returns-in-2-clause-back
returns-in-2-clause-back c = card_reads_back

pub returns-in-2-clause-one : goal.returns-in-2-clause-one
returns-in-2-clause-one c = one_card_answer

pub returns-in_default-clause-back : goal.returns-in_default-clause-back
returns-in_default-clause-back c = card_reads_back

pub returns-in_default-clause-one : goal.returns-in_default-clause-one
returns-in_default-clause-one c = one_card_answer
