use Rattle.std.proofs.Common.{◌≡◌, ◌≤◌, [], map, length, take, drop}
use Rattle.codes.specs.Cards.{card_code}
use Rattle.tags.specs.tag.Tags.{tag_cells}
use Rattle.tags.specs.runs.Calls.{call_of, sheet_of}
use Rattle.tags.specs.runs.Plays.{PicksAll}
use Rattle.tags.specs.runs.Rooms.{used}
use Rattle.tags.proofs.runs_lemmas.Journals.{AllAnswered}
use Rattle.tags.proofs.runs.run.work_tag.Given as goal

-- The tag has the card, and its cells are the sheet of the calls so far. The events so far are answered as the sheet says, and the
-- worker picked them. The other places are as they were, and so is the rest of the room.
abbrev pub invariant-loop-events : goal.invariant-loop-events
invariant-loop-events g l = record {
  card : l.tag.card.now ≡ l.card;
  cells : tag_cells l.tag ≡ sheet_of (card_code l.card) (map call_of (take l.events l.journal));
  answered : AllAnswered (g.F.Field.meaning l.card.field).arithmetic (card_code l.card) l.fn.room (take l.events l.journal);
  picked : PicksAll g.W.Worker.picks [] l.initial.worker (take l.events l.journal) l.worker;
  places : length l.journal ≡ length l.initial.journal;
  within : l.events ≤ length l.journal;
  others : drop l.events l.journal ≡ drop l.events l.initial.journal;
  lent : used (map call_of (take l.events l.journal)) ≤ length l.fn.room;
  rest : l.rest ≡ drop (used (map call_of (take l.events l.journal))) l.fn.room;
}
