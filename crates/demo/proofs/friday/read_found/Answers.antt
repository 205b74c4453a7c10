use Rattle.std.proofs.Common.{◌≡◌, ℕ, List, replicate, Result, Ok, Err, sym, refl, ap, subst}
use Rattle.std.specs.Str.{chars}
use Rattle.fields.specs.Modulo.{modulo}
use Rattle.codes.specs.Cards.{card_code}
use Rattle.decoding.specs.reading.Reading.{Reading}
use Rattle.decoding.specs.declared.reading.read_answer.Counts.{Counts}
use Rattle.decoding.specs.declared.reading.read_answer.ReadRefusal.{ReadRefusal}
use Rattle.tags.specs.marks.Lines.{LineRead}
use Rattle.tags.specs.declared.marks.line.LineRefusal.{LineRefusal}
use Rattle.demo.specs.inked.InkedTag.{inked_code, inked_arithmetic, inked_letters, inked_cells, blank_cells}
use Rattle.std.specs.Result.{IsErrAnd}
use Rattle.demo.specs.declared.found.TagRead.{TagRead}
use Rattle.demo.specs.declared.found.Unread.{Unread}
use Rattle.demo.specs.declared.found.Unread.TheVariants.{Line, Read}
use Rattle.demo.specs.Found.{empty_word, FoundOn}
use Rattle.demo.proofs.LineAndRead.{both_under, refused_line, left_as_it_was}
use Rattle.demo.proofs.friday.read_found.Goals as goal

broken : (marks : List ℕ) (r : Result TagRead Unread) (unread : Unread) → IsErrAnd r (λ e. e ≡ unread) → FoundOn marks (Err unread) → FoundOn marks r
broken marks (Ok read) unread same found = absurd same
broken marks (Err e) unread same found = subst (λ (u : Unread). FoundOn marks (Err u)) (sym same) found

pub returns-in_err-noted : goal.returns-in_err-noted
returns-in_err-noted c =
    let card = c.inked_card-card.ensures in
    let play = c.play_script.ensures in
    let marks = chars c.args.line.now in
    let both = both_under _ (card_code c.inked_card-card.result) c.args.line (replicate 20 0) refl _ _ _ c.line_answer-noted.result c.read_answer-answer.result.0 c.read_answer-answer.result.1 play.events c.play_script.auto.journal play.calls play.law
    (c.line_answer-noted.ensures c.args.line) c.read_answer-answer.ensures inked_arithmetic inked_code (ap modulo card.made_from) card.values in
    let noted = subst (λ (r : Result (Unit {0}) LineRefusal). LineRead inked_letters marks (blank_cells inked_cells) both.0 r) c.in_err-noted.was both.1 in
    broken marks c.from_residual.result (Line c.in_err-noted.field-0.0) c.from_residual.ensures.1
    (refused_line inked_letters marks (blank_cells inked_cells) both.0 c.in_err-noted.field-0.0 noted)

pub returns-in_err-counts : goal.returns-in_err-counts
returns-in_err-counts c =
    let card = c.inked_card-card.ensures in
    let play = c.play_script.ensures in
    let marks = chars c.args.line.now in
    let both = both_under _ (card_code c.inked_card-card.result) c.args.line (replicate 20 0) refl _ _ _ c.line_answer-noted.result c.read_answer-answer.result.0 c.read_answer-answer.result.1 play.events c.play_script.auto.journal play.calls play.law
    (c.line_answer-noted.ensures c.args.line) c.read_answer-answer.ensures inked_arithmetic inked_code (ap modulo card.made_from) card.values in
    let noted = subst (λ (r : Result (Unit {0}) LineRefusal). LineRead inked_letters marks (blank_cells inked_cells) both.0 r) c.in_ok-noted.was both.1 in
    let reading = subst (λ (answer : Result Counts ReadRefusal). Reading inked_arithmetic inked_code both.0 empty_word c.read_answer-answer.result.1 answer) c.in_err-counts.was both.2 in
    broken marks c.from_residual-in_err-counts.result (Read c.in_err-counts.field-0.0) c.from_residual-in_err-counts.ensures.1 (both.0, noted, left_as_it_was inked_arithmetic inked_code both.0 empty_word _ c.in_err-counts.field-0.0 reading)

pub returns : goal.returns
returns c =
    let card = c.inked_card-card.ensures in
    let play = c.play_script.ensures in
    let marks = chars c.args.line.now in
    let both = both_under _ (card_code c.inked_card-card.result) c.args.line (replicate 20 0) refl _ _ _ c.line_answer-noted.result c.read_answer-answer.result.0 c.read_answer-answer.result.1 play.events c.play_script.auto.journal play.calls play.law
    (c.line_answer-noted.ensures c.args.line) c.read_answer-answer.ensures inked_arithmetic inked_code (ap modulo card.made_from) card.values in
    let noted = subst (λ (r : Result (Unit {0}) LineRefusal). LineRead inked_letters marks (blank_cells inked_cells) both.0 r) c.in_ok-noted.was both.1 in
    (both.0, noted, subst (λ (answer : Result Counts ReadRefusal). Reading inked_arithmetic inked_code both.0 empty_word c.read_answer-answer.result.1 answer) c.in_ok-counts.was both.2)
