use Rattle.std.specs.Prelude.{codes}
use Rattle.std.proofs.Common.{◌++◌}
use Rattle.std.proofs.lemmas.Result.{err_from_is_err_and}
use Rattle.codes.specs.WordText.{word_text}
use Rattle.tray_report.specs.Putting.{fields_text}
use Rattle.tray_report.proofs.Putting.{begin_more, begin_front, failed, puts_more}
use Rattle.tray_report.proofs.report.line_writing.put_line.Goals as goal

pub returns-in_err-put_fields : goal.returns-in_err-put_fields
returns-in_err-put_fields g c =
    let p = err_from_is_err_and c.from_residual.result c.from_residual.ensures.1 in
    let old = g.W.Write.contents c.args.out.now in
    let new = g.W.Write.contents c.put_fields.new.out in
    let later = word_text c.args.letters.now ++ codes "\n" in
    failed old new (fields_text c.args.fields.now ++ later) c.from_residual.result p.0 p.1 (begin_front old new (fields_text c.args.fields.now) later c.in_err-put_fields.ensures)

pub returns-in_err-put_letters : goal.returns-in_err-put_letters
returns-in_err-put_letters g c =
    let p = err_from_is_err_and c.from_residual-in_err-put_letters.result c.from_residual-in_err-put_letters.ensures.1 in
    let old = g.W.Write.contents c.args.out.now in
    let mid = g.W.Write.contents c.put_fields.new.out in
    let new = g.W.Write.contents c.put_letters.new.out in
    let letters = word_text c.args.letters.now in
    failed old new (fields_text c.args.fields.now ++ (letters ++ codes "\n")) c.from_residual-in_err-put_letters.result p.0 p.1
    (begin_more old mid new (fields_text c.args.fields.now) (letters ++ codes "\n") c.in_ok-put_fields.ensures (begin_front mid new letters (codes "\n") c.in_err-put_letters.ensures))

pub returns : goal.returns
returns g c =
    let old = g.W.Write.contents c.args.out.now in
    let mid = g.W.Write.contents c.put_fields.new.out in
    let after = g.W.Write.contents c.put_letters.new.out in
    let new = g.W.Write.contents c.put.new.out in
    let letters = word_text c.args.letters.now in
    puts_more old mid new (fields_text c.args.fields.now) (letters ++ codes "\n") c.put.result c.in_ok-put_fields.ensures
    (puts_more mid after new letters (codes "\n") c.put.result c.in_ok-put_letters.ensures c.put.ensures)
