use Rattle.std.proofs.Common.{◌++◌, decimal}
use Rattle.std.proofs.lemmas.Result.{err_from_is_err_and}
use Rattle.tray_report.specs.Putting.{fields_text}
use Rattle.tray_report.specs.declared.report.putting.Field.{Field}
use Rattle.tray_report.proofs.Putting.{begin_at, begin_more, begin_front, failed}
use Rattle.tray_report.proofs.report.putting.put_fields.Goals as goal

pub returns-in_err-put : goal.returns-in_err-put
returns-in_err-put g c =
    let p = err_from_is_err_and c.from_residual.result c.from_residual.ensures.1 in
    let old = g.W.Write.contents c.args.out.now in
    let new = g.W.Write.contents c.put.new.out in
    let fields = c.args.fields.now in
    failed old new (fields_text fields) c.from_residual.result p.0 p.1
    (begin_at (λ (f : Field). f.label.now ++ decimal f.number) fields c.loop-field.field-index _ old _ new c.loop-field-test.true c.loop-field.invariant (begin_front _ _ _ _ c.in_err-put.ensures))

pub returns-in_err-put_number : goal.returns-in_err-put_number
returns-in_err-put_number g c =
    let p = err_from_is_err_and c.from_residual-in_err-put_number.result c.from_residual-in_err-put_number.ensures.1 in
    let old = g.W.Write.contents c.args.out.now in
    let new = g.W.Write.contents c.put_number.new.out in
    let fields = c.args.fields.now in
    failed old new (fields_text fields) c.from_residual-in_err-put_number.result p.0 p.1
    (begin_at (λ (f : Field). f.label.now ++ decimal f.number) fields c.loop-field.field-index _ old _ new c.loop-field-test.true c.loop-field.invariant
    (begin_more _ _ _ _ _ c.in_ok-put.ensures c.in_err-put_number.ensures))
