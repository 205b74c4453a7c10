use Rattle.std.proofs.Common.{ap, ◌∙◌, map, filter, length, nat_lt, List, ℕ, arith}
use Rattle.std.proofs.lemmas.Iterator.Consumers.{YieldsList-at, YieldsList-end}
use Rattle.std.proofs.lemmas.Iterator.Splits.{YieldsList-from_str_split}
use Rattle.vectors.specs.Parts.{cell_of}
use Rattle.vectors.proofs.number_lists.read_cells.Goals as goal

pub returns : goal.returns
returns c =
    let pieces = YieldsList-from_str_split 32 c.args.text.now (omega arith) c.split-word-items.ensures.text c.split-word-items.ensures.has_more c.split-word-items.ensures.pattern in
    let road = YieldsList-at c.into_iter-word-iterator.ensures.into_iter_gives pieces in
    let whole = YieldsList-end road c.loop-word.yielded _ c.loop-word.yielded_by _ _ c.in-None.is c.next.ensures.steps in
    c.loop-word.invariant ∙ ap (λ (ws : List (List ℕ)). map cell_of (filter (λ word. nat_lt 0 (length word)) ws)) whole.0
