-- The last card before and after a record, and the cells that stand under it.
use Rattle.std.proofs.Common.{◌≡◌, ◌+◌, ◌^◌, ◌<◌, ◌≤◌, List, ℕ, length, drop, Some, Ok, Result, sym, ap, ◌∙◌, subst, arith}
use Rattle.std.proofs.lemmas.List.{length-append, length-drop}
use Rattle.std.proofs.lemmas.Option.{same_Some}
use Rattle.codes.specs.declared.any_card.AnyCard.{AnyCard}
use Rattle.codes.specs.declared.cell.Cell.{Cell}
use Rattle.tray_file.specs.body.CellBodies.{CellsUnder}
use Rattle.tray_file.specs.reader.Records.{Done, KeptCells}
use Rattle.tray_file.specs.reader.Turns.{last_card}
use Rattle.tray_file.specs.declared.reader.kind.Kind.TheVariants as kind
use Rattle.tray_file.specs.declared.reader.turn.Turn.{Turn}
use Rattle.tray_file.specs.declared.reader.turn.Turn.TheVariants.{Start, After}
use Rattle.tray_file.specs.declared.reader.turn.Allowed.TheVariants.{EveryKind, NoNote}
use Rattle.tray_file.specs.reader.Entries.{entry_of, entry_bytes}
use Rattle.tray_file.specs.reader.Readers.{left_of, Next}
use Rattle.tray_file.specs.declared.fault.Fault.{Fault}
use Rattle.tray_file.specs.declared.reader.record.Record.{Record}
use Rattle.tray_file.specs.declared.reader.TrayReader.{TrayReader}
use Rattle.tray_file.proofs.reader_lemmas.Answers.{entry_long}
use Rattle.tray_report.specs.FileLines.{counts_with}
use Rattle.tray_report.specs.declared.line.EndLine.{EndLine}
use Rattle.tray_report.specs.declared.file_lines.FileLines.{FileLines}
use Rattle.tray_report.specs.declared.file_lines.Step.{Step}
use Rattle.tray_report.specs.declared.file_lines.Step.TheVariants as step
use Rattle.tray_report.specs.WordReading.{CellsFit}
use Rattle.codes.specs.AnyCards.{any_code}

-- cells and a note leave the last card
pub cells_keep : (turn next : Turn) (body : List ℕ) → Done kind.Cells turn body next → last_card next ≡ last_card turn
cells_keep Start next body done = absurd done
cells_keep (After card allowed) next body done = ap last_card done.1

pub note_keeps : (turn next : Turn) (body : List ℕ) → Done kind.Note turn body next → last_card next ≡ last_card turn
note_keeps Start next body done = absurd done
note_keeps (After card EveryKind) next body done = ap last_card done.1
note_keeps (After card NoNote) next body done = absurd done

-- the cells that are kept are those of the body under the last card
pub kept_under : (next : Turn) (body : List ℕ) (before after : List Cell) (card : AnyCard) → KeptCells kind.Cells next body before after → last_card next ≡ Some card →
    CellsUnder card body after
kept_under Start body before after card kept last = absurd kept
kept_under (After other EveryKind) body before after card kept last = subst (λ (c : AnyCard). CellsUnder c body after) (same_Some other card last) kept
kept_under (After other NoNote) body before after card kept last = absurd kept

-- after cells there is a last card, and they fit it
pub some_card : (turn next : Turn) (body : List ℕ) → Done kind.Cells turn body next → (card : AnyCard) × (last_card next ≡ Some card)
some_card Start next body done = absurd done
some_card (After card allowed) next body done = (card, ap last_card done.1)

pub cells_fit : (card : AnyCard) (body : List ℕ) (cells : List Cell) → CellsUnder card body cells → CellsFit (any_code card) cells
cells_fit card body cells is = record { count = is.count; lettered = is.lettered }

-- a record has a byte at least, and a file that has records is not too long, so the counts fit
module _ (before : FileLines) (after : TrayReader) (r : Record) (answered : Next before.reader (Some (Ok r)) after) where
  longer : before.reader.place + 2 ≤ after.place
  longer = omega (arith, answered.here.end_place, entry_long (entry_of r))

  pub counts_fit : before.end.read + before.end.lost + 1 < 2 ^ 64
  counts_fit =
      let file = before.reader.file.now in
      let short = before.reader.short answered.no_fault in
      omega (arith, before.few, short, entry_long (entry_of r), ap length answered.here.first, length-append (entry_bytes (entry_of r)) (drop (length (entry_bytes (entry_of r))) (left_of before.reader)), length-drop before.reader.place file)

  one_more : (told : Step) → (counts_with before.end told).read + (counts_with before.end told).lost ≤ before.end.read + before.end.lost + 1
  one_more step.Silent = omega arith
  one_more (step.Read place word) = omega arith
  one_more (step.Lost line) = omega arith
  one_more (step.End line) = omega arith
  one_more (step.Fault line) = omega arith

  pub counts_within : (told : Step) (end : EndLine) → end ≡ counts_with before.end told → end.read + end.lost ≤ after.place
  counts_within told end is = subst (λ (e : EndLine). e.read + e.lost ≤ after.place) (sym is) (omega (arith, one_more told, before.few, longer))

-- the reader's answer is this record
pub answered_as : (before after : TrayReader) (answer : Result Record Fault) (found r : Record) → Next before (Some answer) after → answer ≡ Ok found → found ≡ r →
    Next before (Some (Ok r)) after
answered_as before after answer found r next is same = subst (λ (a : Result Record Fault). Next before (Some a) after) (is ∙ ap Ok same) next
