use Rattle.std.proofs.Common.{refl, sym, ap, ◌∙◌, ap₂, subst}
use Rattle.std.proofs.lemmas.Result.{err_from_is_err_and}
use Rattle.codes.specs.Code.{Code, code_with}
use Rattle.codes.specs.Checked.{Checked}
use Rattle.codes.specs.Cards.{CardRefused}
use Rattle.tray_file.specs.body.CardHeads.{HeadFits}
use Rattle.tray_file.specs.body.CardBodies.{card_body}
use Rattle.tray_file.proofs.body_lemmas.CardValues.{lists_refused, values_are, values_refused}
use Rattle.tray_file.proofs.body.card_body.card_over.Goals as goal

pub returns-in_err-read : goal.returns-in_err-read
returns-in_err-read g c =
    let m = g.F.Field.meaning c.args.field in
    let fits : HeadFits m c.args.read.head = record { shape = c.if-not-has_shape.ensures.0 refl; alphabet = c.if-not-admits.ensures.0 refl } in
    let stands = c.requires.stands in
    let stop = lists_refused c.args.read.head c.args.body.now stands.begins m c.args.read.end _ fits stands.end c.in_err-read.ensures in
    let p = err_from_is_err_and c.from_residual.result c.from_residual.ensures.1 in
    rw (p.1, p.2) stop

pub returns-in_err-check : goal.returns-in_err-check
returns-in_err-check g c =
    let m = g.F.Field.meaning c.args.field in
    let head = c.args.read.head in
    let stands = c.requires.stands in
    let fits : HeadFits m head = record { shape = c.if-not-has_shape.ensures.0 refl; alphabet = c.if-not-admits.ensures.0 refl } in
    let lists = c.in_ok-read.ensures in
    let code = code_with head.letters head.rows c.in_ok-read.read.locators c.in_ok-read.read.multipliers in
    let values = values_are m head c.args.body.now stands.begins c.args.read.end stands.end fits code refl refl lists.1 lists.2 lists.0 in
    let is = ap₂ (code_with head.letters head.rows) c.as_slice.ensures.value c.as_slice-2.ensures.value in
    let refused = values_refused head c.args.body.now stands.begins m code _ values (subst (λ (k : Code). CardRefused m k c.in_err-check.field-0.0) is c.in_err-check.ensures) in
    let p = err_from_is_err_and c.from_residual-in_err-check.result c.from_residual-in_err-check.ensures.1 in
    rw (p.1, p.2) refused

pub returns : goal.returns
returns g c =
    let m = g.F.Field.meaning c.args.field in
    let head = c.args.read.head in
    let stands = c.requires.stands in
    let fits : HeadFits m head = record { shape = c.if-not-has_shape.ensures.0 refl; alphabet = c.if-not-admits.ensures.0 refl } in
    let lists = c.in_ok-read.ensures in
    let code = code_with head.letters head.rows c.in_ok-read.read.locators c.in_ok-read.read.multipliers in
    let values = values_are m head c.args.body.now stands.begins c.args.read.end stands.end fits code refl refl lists.1 lists.2 lists.0 in
    let is = ap₂ (code_with head.letters head.rows) c.as_slice.ensures.value c.as_slice-2.ensures.value in
    let made = c.in_ok-check.ensures in (
      made.0,
      subst (Checked m) (sym made.1) made.2,
      values.written ∙ ap (card_body head.kind head.origin) (sym (made.1 ∙ is)),
    )
