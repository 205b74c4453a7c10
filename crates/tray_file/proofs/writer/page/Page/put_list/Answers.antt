use Rattle.std.proofs.Common.{ℕ, ◌+◌, List, length, get_or, take, sym, ap, arith, subst}
use Rattle.tray_file.specs.number.Numbers.{number_bytes}
use Rattle.tray_file.specs.body.NumberLists.{numbers}
use Rattle.tray_file.specs.writer.Pages.{Added}
use Rattle.tray_file.proofs.writer_lemmas.Puts.{added_next, numbers_more, length_more, front_within, small_at, length_put}
use Rattle.tray_file.proofs.writer.page.Page.put_list.Goals as goal

pub put_number-requires : goal.put_number-requires
put_number-requires c =
    let list = c.args.list.now in
    let j = c.loop-value.value-index in
    let inv = c.loop-value.invariant in
    let more = length_more list j (omega arith) in
    let within = front_within list (j + 1) in
    record { small = small_at list j c.requires.small (omega arith); room = omega (arith, inv.place, c.requires.room, ap length inv.bytes_are, length_put c.args.self.now.place (numbers (take j list)) c.args.self.now.buffer.now (omega (arith, c.requires.room, front_within list j))) }

pub loop-value-preserved : goal.loop-value-preserved
loop-value-preserved c =
    let list = c.args.list.now in
    let j = c.loop-value.value-index in
    let within = front_within list j in
    subst (λ (l : List ℕ). Added l c.args.self.now c.put_number.new.self) (sym (numbers_more list j (omega arith)))
    (added_next (numbers (take j list)) (number_bytes (get_or list j 0)) _ _ _ (omega (arith, c.requires.room)) c.loop-value.invariant c.put_number.ensures)
