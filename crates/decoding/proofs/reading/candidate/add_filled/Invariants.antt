use Rattle.std.proofs.Common.{◌≡◌, List, length}
use Rattle.codes.specs.Cards.{card_code}
use Rattle.codes.specs.declared.cell.Cell.{Cell}
use Rattle.decoding.proofs.reading_lemmas.ErasingSteps.{ChangedTo, SumsOf, noted_at}
use Rattle.decoding.proofs.reading.candidate.add_filled.Given as goal

-- the sums are those of the cells with the word noted in those gone through
abbrev pub invariant-loop-cell : goal.invariant-loop-cell
invariant-loop-cell g l =
    (mixed : List Cell) × (length mixed ≡ length l.cells) × ChangedTo (noted_at l.word) l.cells mixed (length l.yielded)
    × SumsOf (g.F.Field.meaning l.card.field).arithmetic (card_code l.card) mixed l.sums
