use Rattle.std.proofs.lemmas.Result.{err_from_is_err_and}
use Rattle.codes.specs.WordText.{letter_text, word_text}
use Rattle.tray_report.proofs.Putting.{begin_at, begin_more, begin_front, failed}
use Rattle.tray_report.proofs.report.putting.put_letters.Goals as goal

pub returns-in_err-put : goal.returns-in_err-put
returns-in_err-put g c =
    let p = err_from_is_err_and c.from_residual.result c.from_residual.ensures.1 in
    let old = g.W.Write.contents c.args.out.now in
    let new = g.W.Write.contents c.put.new.out in
    let letters = c.args.letters.now in
    failed old new (word_text letters) c.from_residual.result p.0 p.1
    (begin_at letter_text letters c.loop-letter.letter-index 0 old _ new c.loop-letter-test.true c.loop-letter.invariant (begin_front _ _ _ _ c.in_err-put.ensures))

pub returns-in_err-put_number : goal.returns-in_err-put_number
returns-in_err-put_number g c =
    let p = err_from_is_err_and c.from_residual-in_err-put_number.result c.from_residual-in_err-put_number.ensures.1 in
    let old = g.W.Write.contents c.args.out.now in
    let new = g.W.Write.contents c.put_number.new.out in
    let letters = c.args.letters.now in
    failed old new (word_text letters) c.from_residual-in_err-put_number.result p.0 p.1
    (begin_at letter_text letters c.loop-letter.letter-index 0 old _ new c.loop-letter-test.true c.loop-letter.invariant
    (begin_more _ _ _ _ _ c.in_ok-put.ensures c.in_err-put_number.ensures))
