use Rattle.std.proofs.Common.{◌≡◌, ◌++◌, ℕ, List, length, min, take, drop, string_bytes, sym, ap, ◌∙◌, subst, arith}
use Rattle.std.proofs.Math.Seq.{take-append_seam}
use Rattle.std.proofs.lemmas.Result.{IfOk-weaker}
use Rattle.codes.specs.Cards.{card_arithmetic, card_code}
use Rattle.tags.specs.declared.runs.event.Event.{Event}
use Rattle.tags.proofs.runs_lemmas.Scripts.{playable_all}
use Rattle.vectors.specs.ReadAnswers.{LastReadText}
use Rattle.vectors.proofs.Journals.{as_long, played}
use Rattle.vectors.proofs.cases.played_text.Goals as goal

pub returns : goal.returns
returns g c =
    let calls = c.args.calls.now in
    let room = c.args.room.now in
    let before = c.as_mut_slice.result.now in
    let after = c.play_script.new.journal in
    let play = c.play_script.ensures in
    let places = c.as_mut_slice.ensures.len ∙ c.in_ok-journal.ensures.len in
    let enough : length before ≡ length calls = omega (arith, places) in
    let events = play.events ∙ ap (λ (n : ℕ). min n (length before)) (playable_all (length room) calls c.requires) in
    let long = as_long calls before after c.play_script.result.events events enough play.calls play.others in
    let row = c.as_slice.ensures.value ∙ ap (λ (n : ℕ). take n (after ++ drop (length after) c.in_ok-journal.journal.items)) (sym c.as_mut_slice.ensures.len ∙ enough ∙ sym long) ∙ take-append_seam after _ in
    IfOk-weaker c.last_read.result _ _
    (λ text told. played calls before after c.play_script.result.events events enough play.calls play.others (card_arithmetic c.args.card.now) (card_code c.args.card.now) room (string_bytes text) play.law
    (subst (λ (journal : List Event). LastReadText journal (string_bytes text)) row told)) c.last_read.ensures
