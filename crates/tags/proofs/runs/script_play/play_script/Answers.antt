use Rattle.std.proofs.Common.{◌≡◌, List, length, take, drop, sym, ap, ◌∙◌}
use Rattle.std.proofs.lemmas.List.{length-take-le}
use Rattle.tags.specs.runs.Rooms.{used}
use Rattle.tags.specs.declared.runs.call.Call.{Call}
use Rattle.tags.proofs.runs_lemmas.Scripts.{through}
use Rattle.tags.proofs.runs.script_play.play_script.Goals as goal

pub returns : goal.returns
returns g c =
    let play = c.work_tag.ensures.play in
    let events = c.work_tag.result.events in
    let calls = c.args.calls.now in
    let way = through (record { calls = c.args.calls }) c.work_tag.new.worker (take events c.work_tag.new.journal) _ _ c.work_tag.result.ending play.lent play.ended in
    let count : length (take events c.work_tag.new.journal) ≡ events = length-take-le events c.work_tag.new.journal play.within in
    let same = way.same ∙ ap (λ n. take n calls) count in
    record {
      events = sym count ∙ way.as_many;
      ending = way.ended;
      calls = same;
      others = play.others;
      rest = play.rest ∙ ap (λ (cs : List Call). drop (used cs) c.args.room.now) same;
      law = c.work_tag.ensures.law;
    }
