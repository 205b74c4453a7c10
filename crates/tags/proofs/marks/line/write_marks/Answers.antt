use Rattle.std.proofs.Common.{◌<◌, length, get_or, set, Some, sym, ap, ◌∙◌, ⊎_elim, arith, length-set, get_or-set_other, get_or-set_same, rules}
use Rattle.std.specs.Str.{chars}
use Rattle.std.proofs.lemmas.Bool.{cases_eq}
use Rattle.std.proofs.lemmas.Iterator.{YieldsList-from_chars}
use Rattle.std.proofs.lemmas.Iterator.Consumers.{YieldsList-from_enumerate, YieldsList-turn, YieldsList-end}
use Rattle.std.proofs.lemmas.List.{length_push}
use Rattle.std.proofs.lemmas.List.FromFn.{length-enumerate_from}
use Rattle.codes.specs.Cells.{blank_cell}
use Rattle.tags.specs.marks.Lines.{marked_cell}
use Rattle.tags.proofs.marks_lemmas.Characters.{turn_of}
use Rattle.tags.proofs.marks.line.write_marks.Goals as goal

pub bounds-cells-place : goal.bounds-cells-place
bounds-cells-place c =
    let road = YieldsList-from_enumerate (YieldsList-from_chars c.args.line.now c.utf8.line (cc)) (cc) in
    let t = YieldsList-turn road c.loop-place.yielded _ c.loop-place.yielded_by _ _ (c.in-Some.place, c.in-Some.mark) c.in-Some.is c.next.ensures.steps in
    let turn = turn_of (chars c.args.line.now) _ _ _ t in
    omega (arith, turn.within, turn.at, c.requires.long, c.loop-place.invariant.long)

pub offset_bounds-cells-place : goal.offset_bounds-cells-place
offset_bounds-cells-place c =
    let road = YieldsList-from_enumerate (YieldsList-from_chars c.args.line.now c.utf8.line (cc)) (cc) in
    let t = YieldsList-turn road c.loop-place.yielded _ c.loop-place.yielded_by _ _ (c.in-Some.place, c.in-Some.mark) c.in-Some.is c.next.ensures.steps in
    let turn = turn_of (chars c.args.line.now) _ _ _ t in
    let within = turn.within in
    let at = turn.at in
    search rules

pub loop-place-preserved-in-Some-marked : goal.loop-place-preserved-in-Some-marked
loop-place-preserved-in-Some-marked c =
    let road = YieldsList-from_enumerate (YieldsList-from_chars c.args.line.now c.utf8.line (cc)) (cc) in
    let t = YieldsList-turn road c.loop-place.yielded _ c.loop-place.yielded_by _ _ (c.in-Some.place, c.in-Some.mark) c.in-Some.is c.next.ensures.steps in
    let line = chars c.args.line.now in
    let turn = turn_of line _ _ _ t in
    let inv = c.loop-place.invariant in
    let at = turn.at in
    let more = length_push c.loop-place.yielded (c.in-Some.place, c.in-Some.mark) in
    let place : c.in-Some.place < length c.loop-place.cells = omega (arith, turn.within, turn.at, c.requires.long, inv.long) in
    record {
      long = length-set _ _ _ ∙ inv.long;
      each = λ j h. ⊎_elim
          (λ here. ap (marked_cell c.args.letters) (ap (λ n. get_or line n 0) (here ∙ at) ∙ turn.is)
          ∙ sym c.marked.ensures ∙ c.in-Some-marked.is
          ∙ ap Some (sym (ap (λ n. get_or (set c.loop-place.cells c.in-Some.place c.in-Some-marked.cell) n blank_cell) here ∙ get_or-set_same c.loop-place.cells c.in-Some.place c.in-Some-marked.cell blank_cell place)))
          (λ other. inv.each j (omega arith) ∙ ap Some (sym (get_or-set_other c.loop-place.cells c.in-Some.place j c.in-Some-marked.cell blank_cell other)))
          (cases_eq j c.in-Some.place);
    }

pub loop-place-preserved : goal.loop-place-preserved
loop-place-preserved c =
    let road = YieldsList-from_enumerate (YieldsList-from_chars c.args.line.now c.utf8.line (cc)) (cc) in
    let t = YieldsList-turn road c.loop-place.yielded _ c.loop-place.yielded_by _ _ (c.in-Some.place, c.in-Some.mark) c.in-Some.is c.next.ensures.steps in
    let turn = turn_of (chars c.args.line.now) _ _ _ t in
    absurd (c.requires.good _ turn.within (ap (marked_cell c.args.letters) turn.is ∙ sym c.marked.ensures ∙ c.in_default.is))

pub returns : goal.returns
returns c =
    let road = YieldsList-from_enumerate (YieldsList-from_chars c.args.line.now c.utf8.line (cc)) (cc) in
    let t = YieldsList-end road c.loop-place.yielded _ c.loop-place.yielded_by _ _ c.in-None.is c.next.ensures.steps in
    let inv = c.loop-place.invariant in
    record { long = inv.long ∙ sym c.requires.long; each = λ j h. inv.each j (omega (arith, t.1, length-enumerate_from 0 (chars c.args.line.now))) }
