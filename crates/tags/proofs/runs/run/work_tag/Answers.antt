use Rattle.std.proofs.Common.{◌≡◌, ◌+◌, ◌-◌, ◌<◌, ◌≤◌, ℕ, List, [], ◌∷◌, ◌++◌, map, length, take, drop, set, Some, None, sym, ap, ◌∙◌, subst, ap₂, subst₂, le_refl, arith, length-set}
use Rattle.std.proofs.lemmas.List.{take_more_set, drop-drop, drop-set-lt, length-drop, length-take-le}
use Rattle.codes.specs.Cards.{card_code}
use Rattle.codes.specs.declared.card.Card.{Card}
use Rattle.codes.specs.declared.cell.Cell.{Cell}
use Rattle.tags.specs.tag.Sheet.{blank_sheet}
use Rattle.tags.specs.runs.Calls.{after_call, call_of, sheet_of}
use Rattle.tags.specs.runs.Plays.{PicksAll}
use Rattle.tags.specs.runs.Rooms.{lent_to, used}
use Rattle.tags.specs.runs.Runs.{Answered}
use Rattle.tags.specs.declared.runs.call.Call.{Call}
use Rattle.tags.specs.declared.runs.event.Event.{Event}
use Rattle.tags.proofs.runs_lemmas.Journals.{AllAnswered, answered_more, answered_next, picks_more, sheet_push, run_law}
use Rattle.tags.proofs.runs_lemmas.Rooms.{next_lent, wanted_read}
use Rattle.tags.proofs.runs.run.work_tag.Goals as goal

pub returns-in_default : goal.returns-in_default
returns-in_default g c =
    let inv = c.loop-events.invariant in
    let card = c.args.card.now in
    let seen : take (c.loop-events.events - 0) c.loop-events.journal ≡ take c.loop-events.events c.loop-events.journal = ap (λ n. take n c.loop-events.journal) (omega arith) in
    record {
      play = record {
        within = inv.within;
        ended = (c.loop-events.worker, inv.picked, subst (λ (js : List Event). g.W.Worker.picks c.loop-events.worker js None c.pick.new.self) seen c.in_default.ensures, omega (arith, length-take-le c.loop-events.events c.loop-events.journal inv.within));
        others = inv.others;
        lent = inv.lent;
        rest = inv.rest;
      };
      law = run_law (g.F.Field.meaning card.field).arithmetic (card_code card) c.args.room.now _ inv.answered;
    }

pub returns-then-count-rest : goal.returns-then-count-rest
returns-then-count-rest g c =
    let inv = c.loop-events.invariant in
    let card = c.args.card.now in
    let journal = c.loop-events.journal in
    let events = c.loop-events.events in
    let seen : take (events - 0) journal ≡ take events journal = ap (λ n. take n journal) (omega arith) in
    let before = used (map call_of (take events journal)) in
    let long : length c.loop-events.rest.now ≡ length c.args.room.now - before = ap (λ (xs : List ℕ). length xs) inv.rest ∙ length-drop before c.args.room.now in
    let picked = wanted_read c.in-Some.call (length c.loop-events.rest.now) (omega (arith, c.if-count-rest.true, c.lent-count.ensures)) in
    record {
      play = record {
        within = inv.within;
        ended = (
          c.loop-events.worker,
          inv.picked,
          (picked.0, subst₂ (λ (js : List Event) (call : Call). g.W.Worker.picks c.loop-events.worker js (Some call) c.pick.new.self) seen picked.1 c.in-Some.ensures, omega (arith, long, inv.lent, picked.2)),
          omega (arith, length-take-le events journal inv.within),
        );
        others = inv.others;
        lent = inv.lent;
        rest = inv.rest;
      };
      law = run_law (g.F.Field.meaning card.field).arithmetic (card_code card) c.args.room.now _ inv.answered;
    }

pub loop-events-preserved : goal.loop-events-preserved
loop-events-preserved g c =
    let inv = c.loop-events.invariant in
    let made = c.make_call.ensures in
    let picks = g.W.Worker.picks in
    let card = c.args.card.now in
    let code = card_code card in
    let A = (g.F.Field.meaning card.field).arithmetic in
    let journal = c.loop-events.journal in
    let events = c.loop-events.events in
    let so_far = take events journal in
    let e = c.make_call.result in
    let part = c.split_at_mut-part.result.0.now in
    let place : events < length journal = omega arith in
    let more : take (events + 1) (set journal events e) ≡ so_far ++ (e ∷ []) = take_more_set journal events e place in
    let seen : take (events - 0) journal ≡ so_far = ap (λ n. take n journal) (omega arith) in
    let next = next_lent c.args.room.now so_far e c.loop-events.rest.now part c.split_at_mut-part.result.1.now c.lent-count.result inv.rest inv.lent (ap lent_to made.same ∙ sym c.lent-count.ensures) c.if-count-rest.false c.split_at_mut-part.ensures.front c.split_at_mut-part.ensures.back in
    let here = subst₂ (λ (d : Card g.row.F.Denot _) (s : List Cell). Answered (g.F.Field.meaning d.field).arithmetic (card_code d) s part e) inv.card inv.cells made.answer in
    record {
      card = made.card ∙ inv.card;
      cells =
          made.cells
          ∙ ap₂ (λ (d : Card g.row.F.Denot _) (s : List Cell). after_call (card_code d) s c.in-Some.call) inv.card inv.cells
          ∙ ap (after_call code _) (sym made.same)
          ∙ sym (sheet_push code (blank_sheet code) so_far e)
          ∙ ap (λ (js : List Event). sheet_of code (map call_of js)) (sym more);
      answered =
          subst (AllAnswered A code c.args.room.now) (sym more)
          (answered_more A code c.args.room.now so_far e inv.answered
          (answered_next A code (sheet_of code (map call_of so_far)) (drop (used (map call_of so_far)) c.args.room.now) e next.fits
          (subst (λ (before : List ℕ). Answered A code (sheet_of code (map call_of so_far)) before e) next.part_is here)));
      picked =
          subst (λ (js : List Event). PicksAll picks [] c.args.worker.now js c.pick.new.self) (sym more)
          (picks_more picks [] c.args.worker.now so_far c.loop-events.worker c.pick.new.self e inv.picked
          (subst₂ (λ (js : List Event) (call : Call). picks c.loop-events.worker js (Some call) c.pick.new.self) seen (sym made.same) c.in-Some.ensures));
      places = length-set journal events e ∙ inv.places;
      within = omega (arith, length-set journal events e);
      others = drop-set-lt (events + 1) journal events e (omega arith) ∙ sym (drop-drop 1 events journal) ∙ ap (drop 1) inv.others ∙ drop-drop 1 events c.args.journal.now;
      lent = subst (λ (js : List Event). used (map call_of js) ≤ length c.args.room.now) (sym more) next.lent;
      rest = subst (λ (js : List Event). c.split_at_mut-part.result.1.now ≡ drop (used (map call_of js)) c.args.room.now) (sym more) next.left_is;
    }

pub returns : goal.returns
returns g c =
    let inv = c.loop-events.invariant in
    let card = c.args.card.now in
    let code = card_code card in
    let A = (g.F.Field.meaning card.field).arithmetic in
    let journal = c.loop-events.journal in
    let full : c.loop-events.events ≡ length journal = omega (arith, inv.places, inv.within, c.loop-events-test.false) in
    record {
      play = record {
        within = le_refl (length journal);
        ended = (
          subst (λ n. PicksAll g.W.Worker.picks [] c.args.worker.now (take n journal) c.loop-events.worker) full inv.picked,
          length-take-le (length journal) journal (le_refl (length journal)) ∙ inv.places,
        );
        others = subst (λ n. drop n journal ≡ drop n c.args.journal.now) full inv.others;
        lent = subst (λ n. used (map call_of (take n journal)) ≤ length c.args.room.now) full inv.lent;
        rest = subst (λ n. c.loop-events.rest.now ≡ drop (used (map call_of (take n journal))) c.args.room.now) full inv.rest;
      };
      law = run_law A code c.args.room.now _ (subst (λ n. AllAnswered A code c.args.room.now (take n journal)) full inv.answered);
    }
