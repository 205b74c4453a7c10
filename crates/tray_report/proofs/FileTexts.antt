-- The lines of the steps are the text of the file's records.
use Rattle.std.proofs.Common.{◌≡◌, ℕ, ◌+◌, ◌≤◌, true, false, List, [], ◌∷◌, ◌++◌, map, length, Some, None, Ok, Err, Option, refl, sym, ap, ◌∙◌, subst, append-nil, append_assoc, arith}
use mathlib.Core.Path.{subst⁻¹}
use Rattle.std.proofs.lemmas.Bool.{true≢false}
use Rattle.tray_file.specs.reader.Entries.{Entry, entry_of, entry_bytes}
use Rattle.tray_file.specs.reader.Readers.{left_of, Next, Run}
use Rattle.tray_file.specs.reader.Turns.{last_card}
use Rattle.tray_file.specs.declared.reader.turn.Turn.{Turn}
use Rattle.tray_file.proofs.reader_lemmas.Answers.{fewer_left}
use Rattle.codes.specs.declared.any_card.AnyCard.{AnyCard}
use Rattle.tray_file.specs.declared.fault.Fault.{Fault}
use Rattle.tray_file.specs.declared.reader.record.Record.{Record}
use Rattle.tray_file.specs.declared.reader.record.Record.TheVariants.{Card, Cells, Note}
use Rattle.tray_file.specs.declared.reader.TrayReader.{TrayReader}
use Rattle.tray_file.proofs.reader_lemmas.Runs.{every_run}
use Rattle.tray_report.specs.FileLines.{Tells, Stepped, counts_with, goes_on}
use Rattle.tray_report.specs.FileText.{RecordsText, step_text, steps_text, Telling, EveryTelling, TellingEnds}
use Rattle.tray_report.proofs.Turns.{cells_keep, note_keeps, kept_under}
use Rattle.tray_report.specs.declared.line.EndLine.{EndLine}
use Rattle.tray_report.specs.declared.file_lines.FileLines.{FileLines}
use Rattle.tray_report.specs.declared.file_lines.Step.{Step}
use Rattle.tray_report.specs.declared.file_lines.Step.TheVariants as step

pub told_more : (first : FileLines) (steps : List Step) (before : FileLines) (told : Step) (after : FileLines)
    → Telling first steps before → Stepped before told after → goes_on told ≡ true → Telling first (steps ++ told ∷ []) after
told_more first [] before told after told_before step goes = (after, subst (λ (l : FileLines). Stepped l told after) (sym told_before) step, goes, refl)
told_more first (x ∷ steps) before told after told_before step goes =
    (told_before.0, told_before.1, told_before.2, told_more told_before.0 steps before told after told_before.3 step goes)

pub text_more : (steps : List Step) (told : Step) → steps_text (steps ++ told ∷ []) ≡ steps_text steps ++ step_text told
text_more [] told = append-nil (step_text told)
text_more (x ∷ steps) told =
    ap (λ l. step_text x ++ l) (text_more steps told) ∙ sym (append_assoc (step_text x) (steps_text steps) (step_text told))

-- what a reader answers from a place on, and the text of it
record Answers (before : FileLines) (last : TrayReader) (text : List ℕ) : Type 0 where
  records : List Record
  ending : Option Fault
  run : Run before.reader records ending last
  lines : RecordsText (last_card before.reader.turn) before.end before.reader.place (map entry_of records) ending text

-- one record more in front
module _ (before : FileLines) (told : Step) (next : FileLines) (es : List Entry) (ending : Option Fault) (text : List ℕ) where
  abbrev Later : Record → Option AnyCard → EndLine → Type 0
  Later r card counts = RecordsText card counts (before.reader.place + length (entry_bytes (entry_of r))) es ending text

  front : (r : Record) → Next before.reader (Some (Ok r)) next.reader → Tells before (Some (Ok r)) told next → Later r (last_card next.reader.turn) next.end →
      RecordsText (last_card before.reader.turn) before.end before.reader.place (entry_of r ∷ es) ending (step_text told ++ text)
  front (Card body) step (silent, counts) rest =
      let done = step.here.follows.done in
      let later = subst (λ (e : EndLine). Later (Card body) (last_card next.reader.turn) e) counts rest in (
        done.0,
        done.1,
        subst⁻¹ (λ (t : Step). RecordsText (Some done.0) before.end (before.reader.place + length (entry_bytes (entry_of (Card body)))) es ending (step_text t ++ text)) silent
            (subst (λ (c : Option AnyCard). Later (Card body) c before.end) (ap last_card done.2) later),
      )
  front (Note body) step (silent, counts) rest =
      let later = subst (λ (e : EndLine). Later (Note body) (last_card next.reader.turn) e) counts rest in
      let keep = note_keeps before.reader.turn next.reader.turn body.now step.here.follows.done in
      subst⁻¹ (λ (t : Step). RecordsText (last_card before.reader.turn) before.end (before.reader.place + length (entry_bytes (entry_of (Note body)))) es ending (step_text t ++ text)) silent
      (subst (λ (c : Option AnyCard). Later (Note body) c before.end) keep later)
  front (Cells body) step (card, last, cells, counts) rest =
      let later = subst (λ (e : EndLine). Later (Cells body) (last_card next.reader.turn) e) counts rest in
      let keep = cells_keep before.reader.turn next.reader.turn body.now step.here.follows.done in (
        card,
        sym keep ∙ last,
        next.reader.cells.items,
        kept_under next.reader.turn body.now before.reader.cells.items next.reader.cells.items card step.cells last,
        told,
        text,
        cells,
        refl,
        subst (λ (c : Option AnyCard). Later (Cells body) c (counts_with before.end told)) keep later,
      )

answers_record : (before : FileLines) (told : Step) (r : Record) (next : FileLines) (last : TrayReader) (text : List ℕ) →
    Next before.reader (Some (Ok r)) next.reader → Tells before (Some (Ok r)) told next → Answers next last text → Answers before last (step_text told ++ text)
answers_record before told r next last text step tells later = record {
  records = r ∷ later.records;
  ending = later.ending;
  run = (next.reader, step, later.run);
  lines = front before told next (map entry_of later.records) later.ending text r step tells
      (subst (λ (n : ℕ). RecordsText (last_card next.reader.turn) next.end n (map entry_of later.records) later.ending text) step.here.end_place later.lines);
}

-- the end and a fault are told last, and nothing else is
record_goes_on : (r : Record) (before : FileLines) (told : Step) (after : FileLines) → Tells before (Some (Ok r)) told after → goes_on told ≡ true
record_goes_on (Card body) before told after tells = ap goes_on tells.0
record_goes_on (Note body) before told after tells = ap goes_on tells.0
record_goes_on (Cells body) before (step.Read place word) after tells = refl
record_goes_on (Cells body) before (step.Lost line) after tells = refl
record_goes_on (Cells body) before step.Silent after tells = absurd tells.2
record_goes_on (Cells body) before (step.End line) after tells = absurd tells.2
record_goes_on (Cells body) before (step.Fault line) after tells = absurd tells.2

answers_last : (before : FileLines) (told : Step) (after : FileLines) → Stepped before told after → goes_on told ≡ false → Answers before after.reader (step_text told)
answers_last before told after (None, next, tells) ends = record { records = []; ending = None; run = next; lines = ap step_text tells.0 }
answers_last before told after (Some (Err fault), next, tells) ends = record { records = []; ending = Some fault; run = next; lines = ap step_text tells.0 }
answers_last before told after (Some (Ok r), next, tells) ends = absurd (true≢false (sym (record_goes_on r before told after tells) ∙ ends))

answers_more : (before : FileLines) (told : Step) (next : FileLines) (last : TrayReader) (text : List ℕ) →
    Stepped before told next → goes_on told ≡ true → Answers next last text → Answers before last (step_text told ++ text)
answers_more before told next last text (None, step, tells) goes later = absurd (true≢false (sym goes ∙ ap goes_on tells.0))
answers_more before told next last text (Some (Err fault), step, tells) goes later = absurd (true≢false (sym goes ∙ ap goes_on tells.0))
answers_more before told next last text (Some (Ok r), step, tells) goes later = answers_record before told r next last text step tells later

answers_from : (steps : List Step) (before at_last : FileLines) (told : Step) (after : FileLines) → Telling before steps at_last → Stepped at_last told after → goes_on told ≡ false →
    Answers before after.reader (steps_text steps ++ step_text told)
answers_from [] before at_last told after same step ends = subst⁻¹ (λ (l : FileLines). Answers l after.reader (step_text told)) same (answers_last at_last told after step ends)
answers_from (x ∷ steps) before at_last told after (next, first, goes, rest) step ends =
    subst⁻¹ (Answers before after.reader) (append_assoc (step_text x) (steps_text steps) (step_text told))
    (answers_more before x next after.reader (steps_text steps ++ step_text told) first goes (answers_from steps next at_last told after rest step ends))

pub every_telling : EveryTelling
every_telling file first at_last after steps told fresh told_before step ends =
    let all = answers_from steps first at_last told after told_before step ends in
    let text = steps_text steps ++ step_text told in
    let es = map entry_of all.records in
    record {
      records = es;
      ending = all.ending;
      has = every_run file first.reader all.records all.ending after.reader fresh.reader all.run;
      lines =
          subst (λ (n : ℕ). RecordsText None (record { read = 0; lost = 0 }) n es all.ending text) fresh.reader.at_start
          (subst (λ (e : EndLine). RecordsText None e first.reader.place es all.ending text) fresh.counts
          (subst (λ (t : Turn). RecordsText (last_card t) first.end first.reader.place es all.ending text) fresh.reader.first_turn all.lines));
    }

-- a step that goes on leaves two bytes less at least
pub fewer_stepped : (before after : FileLines) (told : Step) → Stepped before told after → goes_on told ≡ true →
    length (left_of after.reader) + 2 ≤ length (left_of before.reader)
fewer_stepped before after told (None, step, tells) goes = absurd (true≢false (sym goes ∙ ap goes_on tells.0))
fewer_stepped before after told (Some (Err fault), step, tells) goes = absurd (true≢false (sym goes ∙ ap goes_on tells.0))
fewer_stepped before after told (Some (Ok r), step, tells) goes = fewer_left before.reader after.reader r step

pub telling_ends : TellingEnds
telling_ends first after [] telling = omega arith
telling_ends first after (told ∷ steps) (next, step, goes, telling) = omega (arith, telling_ends next after steps telling, fewer_stepped first next told step goes)
