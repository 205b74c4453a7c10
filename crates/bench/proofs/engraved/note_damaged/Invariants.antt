use Rattle.std.proofs.Common.{◌≡◌}
use Rattle.codes.specs.Codeword.{Codeword}
use Rattle.tags.specs.tag.Tags.{tag_arithmetic, tag_code, tag_cells}
use Rattle.bench.proofs.NotedCells.{NotedBefore}
use Rattle.bench.proofs.engraved.note_damaged.Given as goal

-- the tag is still of its card, and the cells are noted so far, if the word is one of the card
abbrev pub invariant-loop-j : goal.invariant-loop-j
invariant-loop-j l = (l.tag.card.now ≡ l.initial.tag.card.now)
    × (Codeword (tag_arithmetic l.initial.tag) (tag_code l.initial.tag) l.word → NotedBefore l.damage l.word (tag_cells l.initial.tag) (tag_cells l.tag) l.j)
