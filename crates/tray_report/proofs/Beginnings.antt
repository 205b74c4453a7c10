-- What is told so far is a beginning of the file's text.
use Rattle.std.proofs.Common.{◌≡◌, ℕ, ◌+◌, ltb, true, false, List, [], ◌∷◌, ◌++◌, length, drop, Some, None, Ok, Err, Option, Result, refl, sym, ap, ◌∙◌, subst, append_assoc, append-nil, ⊎_elim, arith}
use Rattle.std.specs.Borrow.{Bor}
use Rattle.std.proofs.lemmas.Bool.{true≢false, lt-ltb, le-ltb, cond-true, cond-false}
use Rattle.std.proofs.lemmas.List.{drop-drop}
use Rattle.std.proofs.lemmas.Option.{none-some, same_Some}
use Rattle.codes.specs.declared.any_card.AnyCard.{AnyCard}
use Rattle.tray_file.proofs.body_lemmas.EqualCards.{one_card}
use Rattle.tray_file.proofs.reader_lemmas.OneRecord.{empty_never, record_never, same_entry}
use Rattle.tray_file.proofs.reader_lemmas.OneFile.{one_record_fault, one_follows}
use Rattle.tray_file.specs.declared.fault.file_cause.FileCause.TheVariants.{LongFile}
use Rattle.tray_file.specs.fault.Faults.{fault_at}
use Rattle.tray_file.specs.reader.Entries.{Entry, entry_of, entry_bytes}
use Rattle.tray_file.specs.reader.Files.{FileFrom}
use Rattle.tray_file.specs.reader.FileLimits.{longest_file}
use Rattle.tray_file.specs.reader.Readers.{left_of, Next}
use Rattle.tray_file.specs.reader.Records.{Follows}
use Rattle.tray_file.specs.reader.Turns.{last_card}
use Rattle.tray_file.specs.declared.fault.Fault.{Fault}
use Rattle.tray_file.specs.declared.reader.record.Record.{Record}
use Rattle.tray_file.specs.declared.reader.record.Record.TheVariants.{Card, Cells, Note}
use Rattle.tray_file.specs.declared.reader.turn.Turn.{Turn}
use Rattle.tray_file.specs.declared.reader.turn.Turn.TheVariants.{Start}
use Rattle.tray_report.specs.FileLines.{Fresh, Stepped, Tells, counts_with, goes_on}
use Rattle.tray_report.specs.FileText.{RecordsText, FileText, Telling, step_text, steps_text}
use Rattle.tray_report.specs.declared.line.EndLine.{EndLine}
use Rattle.tray_report.specs.declared.file_lines.FileLines.{FileLines}
use Rattle.tray_report.specs.declared.file_lines.Step.{Step}
use Rattle.tray_report.specs.declared.file_lines.Step.TheVariants as step
use Rattle.tray_report.proofs.Turns.{cells_keep, note_keeps, kept_under}
use Rattle.tray_report.proofs.OneText.{one_line}

-- the text from where the lines stand, of a file that is not too long
record Left (lines : FileLines) (text : List ℕ) : Type 0 where
  records : List Entry
  ending : Option Fault
  clear : lines.reader.fault ≡ None
  from : FileFrom lines.reader.turn lines.reader.place (left_of lines.reader) records ending
  told : RecordsText (last_card lines.reader.turn) lines.end lines.reader.place records ending text

-- the text begins with what is told, and where there is more to tell the rest is left
record Front (told : Step) (after : FileLines) (text : List ℕ) : Type 0 where
  rest : List ℕ
  is : text ≡ step_text told ++ rest
  more : goes_on told ≡ true → Left after rest

not_both : (A : Type 0) (o : Option Fault) (fault : Fault) → o ≡ None → o ≡ Some fault → A
not_both A o fault e f = absurd (none-some fault (sym e ∙ f))

last : (told : Step) (line : Step) (after : FileLines) (text : List ℕ) → told ≡ line → goes_on line ≡ false → text ≡ step_text line → Front told after text
last told line after text same ends is = record {
  rest = [];
  is = is ∙ ap step_text (sym same) ∙ sym (append-nil (step_text told));
  more = λ goes. absurd (true≢false (sym goes ∙ ap goes_on same ∙ ends));
}

-- a record more is told
module _ (before after : FileLines) (told : Step) (es : List Entry) (ending : Option Fault) where
  abbrev end : Record → ℕ
  end r = before.reader.place + length (entry_bytes (entry_of r))

  abbrev rest_of : Record → List ℕ
  rest_of r = drop (length (entry_bytes (entry_of r))) (left_of before.reader)

  left_after : (r : Record) (text : List ℕ) → Next before.reader (Some (Ok r)) after.reader → (next : Turn) → Follows before.reader.turn (entry_of r) next →
      FileFrom next (end r) (rest_of r) es ending → RecordsText (last_card after.reader.turn) after.end (end r) es ending text → Left after text
  left_after r text answered next follows from lines =
      let here = answered.here in
      let turns : next ≡ after.reader.turn = one_follows before.reader.turn (entry_of r) after.reader.turn next here.follows follows in
      let bytes : left_of after.reader ≡ rest_of r =
      ap (λ (f : Bor (List ℕ)). drop after.reader.place f.now) answered.same_file ∙ ap (λ n. drop n before.reader.file.now) here.end_place
      ∙ sym (drop-drop (length (entry_bytes (entry_of r))) before.reader.place before.reader.file.now) in
      record {
        records = es;
        ending = ending;
        clear = answered.still_none;
        from =
            subst (λ (l : List ℕ). FileFrom after.reader.turn after.reader.place l es ending) (sym bytes)
            (subst (λ n. FileFrom after.reader.turn n (rest_of r) es ending) (sym here.end_place)
            (subst (λ (t : Turn). FileFrom t (end r) (rest_of r) es ending) turns from));
        told = subst (λ n. RecordsText (last_card after.reader.turn) after.end n es ending text) (sym here.end_place) lines;
      }

  silent : (r : Record) (text : List ℕ) → told ≡ step.Silent → Left after text → Front told after text
  silent r text is left = record { rest = text; is = ap (λ (t : Step). step_text t ++ text) (sym is); more = λ goes. left }

  front : (r : Record) (text : List ℕ) → Next before.reader (Some (Ok r)) after.reader → Tells before (Some (Ok r)) told after →
      (next : Turn) → Follows before.reader.turn (entry_of r) next → FileFrom next (end r) (rest_of r) es ending →
      RecordsText (last_card before.reader.turn) before.end before.reader.place (entry_of r ∷ es) ending text → Front told after text
  front (Card body) text answered (is, counts) next follows from (card, read, lines) =
      let done = answered.here.follows.done in
      let same : Some card ≡ last_card after.reader.turn = ap (λ c. Some c) (one_card body.now card done.0 read done.1) ∙ sym (ap last_card done.2) in
      silent (Card body) text is (left_after (Card body) text answered next follows from
      (subst (λ (e : EndLine). RecordsText (last_card after.reader.turn) e (end (Card body)) es ending text) (sym counts)
      (subst (λ (c : Option AnyCard). RecordsText c before.end (end (Card body)) es ending text) same lines)))
  front (Note body) text answered (is, counts) next follows from lines =
      let keep = note_keeps before.reader.turn after.reader.turn body.now answered.here.follows.done in
      silent (Note body) text is (left_after (Note body) text answered next follows from
      (subst (λ (e : EndLine). RecordsText (last_card after.reader.turn) e (end (Note body)) es ending text) (sym counts)
      (subst (λ (c : Option AnyCard). RecordsText c before.end (end (Note body)) es ending text) (sym keep) lines)))
  front (Cells body) text answered (card, is_last, line, counts) next follows from (card_2, is_last_2, cells_2, under_2, told_2, later, line_2, is, lines) =
      let keep = cells_keep before.reader.turn after.reader.turn body.now answered.here.follows.done in
      let under = kept_under after.reader.turn body.now before.reader.cells.items after.reader.cells.items card answered.cells is_last in
      let same = one_line before.reader.place body.now (last_card before.reader.turn) card card_2 after.reader.cells.items cells_2 told told_2 before.end (sym keep ∙ is_last) is_last_2 under under_2 line line_2 in
      record {
        rest = later;
        is = is ∙ ap (λ (l : List ℕ). l ++ later) (sym same.0);
        more = λ goes.
            left_after (Cells body) later answered next follows from
            (subst (λ (e : EndLine). RecordsText (last_card after.reader.turn) e (end (Cells body)) es ending later) (sym same.1 ∙ sym counts)
            (subst (λ (c : Option AnyCard). RecordsText c (counts_with before.end told_2) (end (Cells body)) es ending later) (sym keep) lines));
      }

-- one step from where the text is left
step_front : (before after : FileLines) (told : Step) (es : List Entry) (ending : Option Fault) (text : List ℕ) (answer : Option (Result Record Fault)) →
    before.reader.fault ≡ None → FileFrom before.reader.turn before.reader.place (left_of before.reader) es ending →
    RecordsText (last_card before.reader.turn) before.end before.reader.place es ending text → Next before.reader answer after.reader → Tells before answer told after →
    Front told after text
step_front before after told [] None text None clear from lines next tells = last told (step.End before.end) after text tells.0 refl lines
step_front before after told [] (Some g) text None clear from lines next tells = absurd (omega (arith, from.0, ap length next.none_left))
step_front before after told (e ∷ es) ending text None clear from lines next tells = absurd (empty_never e (left_of before.reader) from.0 next.none_left)
step_front before after told [] None text (Some (Err f)) clear from lines next tells =
    absurd (⊎_elim (not_both ⊥ before.reader.fault f clear) (λ found. omega (arith, found.1, ap length from)) next.cause)
step_front before after told [] (Some g) text (Some (Err f)) clear from lines next tells =
    let same : g ≡ f = ⊎_elim (not_both (g ≡ f) before.reader.fault f clear) (λ found. one_record_fault before.reader.turn before.reader.place (left_of before.reader) g f from.1 found.2) next.cause in
    last told (step.Fault (record { fault = f })) after text tells.0 refl (lines ∙ ap (λ (x : Fault). step_text (step.Fault (record { fault = x }))) same)
step_front before after told (e ∷ es) ending text (Some (Err f)) clear (first, (next_turn, follows, from)) lines next tells =
    absurd (⊎_elim (not_both ⊥ before.reader.fault f clear) (λ found. record_never before.reader.turn before.reader.place (left_of before.reader) e next_turn f first follows found.2) next.cause)
step_front before after told [] None text (Some (Ok r)) clear from lines next tells = absurd (empty_never (entry_of r) (left_of before.reader) next.here.first from)
step_front before after told [] (Some g) text (Some (Ok r)) clear from lines next tells =
    absurd (record_never before.reader.turn before.reader.place (left_of before.reader) (entry_of r) after.reader.turn g next.here.first next.here.follows from.1)
step_front before after told (e ∷ es) ending text (Some (Ok r)) clear (first, (next_turn, follows, from)) lines next tells =
    let same : entry_of r ≡ e = same_entry e (entry_of r) (left_of before.reader) first follows.small next.here.first next.here.follows.small in
    front before after told es ending r text next tells next_turn
    (subst (λ (x : Entry). Follows before.reader.turn x next_turn) (sym same) follows)
    (subst (λ (x : Entry). FileFrom next_turn (before.reader.place + length (entry_bytes x)) (drop (length (entry_bytes x)) (left_of before.reader)) es ending) (sym same) from)
    (subst (λ (x : Entry). RecordsText (last_card before.reader.turn) before.end before.reader.place (x ∷ es) ending text) (sym same) lines)

stepped_front : (before after : FileLines) (told : Step) (text : List ℕ) → Stepped before told after → Left before text → Front told after text
stepped_front before after told text (answer, next, tells) left = step_front before after told left.records left.ending text answer left.clear left.from left.told next tells

-- the steps that go on, and one more
left_front : (steps : List Step) (first before after : FileLines) (told : Step) (text : List ℕ) → Telling first steps before → Stepped before told after → Left first text →
    (rest : List ℕ) × (text ≡ (steps_text steps ++ step_text told) ++ rest)
left_front [] first before after told text telling stepped left =
    let one = stepped_front first after told text (subst (λ (l : FileLines). Stepped l told after) (sym telling) stepped) left in
    (one.rest, one.is)
left_front (x ∷ steps) first before after told text (next, head, goes, telling) stepped left =
    let one = stepped_front first next x text head left in
    let later = left_front steps next before after told one.rest telling stepped (one.more goes) in
    let all = steps_text steps ++ step_text told in (
      later.0,
      one.is ∙ ap (λ (l : List ℕ). step_text x ++ l) later.1 ∙ sym (append_assoc (step_text x) all later.0)
          ∙ ap (λ (l : List ℕ). l ++ later.0) (sym (append_assoc (step_text x) (steps_text steps) (step_text told))),
    )

-- a reader that starts with a fault tells it at once
fault_front : (steps : List Step) (first before after : FileLines) (told : Step) (fault : Fault) → first.reader.fault ≡ Some fault → Telling first steps before →
    Stepped before told after → (steps ≡ []) × (step_text told ≡ step_text (step.Fault (record { fault = fault })))
fault_front [] first before after told fault has telling stepped =
    (refl, told_fault first after told fault has (subst (λ (l : FileLines). Stepped l told after) (sym telling) stepped))
  where
    told_fault : (first after : FileLines) (told : Step) (fault : Fault) → first.reader.fault ≡ Some fault → Stepped first told after → step_text told ≡ step_text (step.Fault (record { fault = fault }))
    told_fault first after told fault has (None, next, tells) = not_both _ first.reader.fault fault next.no_fault has
    told_fault first after told fault has (Some (Ok r), next, tells) = not_both _ first.reader.fault fault next.no_fault has
    told_fault first after told fault has (Some (Err f), next, tells) =
        let same : f ≡ fault = ⊎_elim (λ kept. same_Some f fault (sym kept ∙ has)) (λ found. not_both (f ≡ fault) first.reader.fault fault found.0 has) next.cause in
        ap step_text tells.0 ∙ ap (λ (x : Fault). step_text (step.Fault (record { fault = x }))) same
fault_front (x ∷ steps) first before after told fault has (next, head, goes, telling) stepped = absurd (goes_never first next x fault has head goes)
  where
    goes_never : (first after : FileLines) (told : Step) (fault : Fault) → first.reader.fault ≡ Some fault → Stepped first told after → goes_on told ≡ true → ⊥
    goes_never first after told fault has (None, next, tells) goes = not_both ⊥ first.reader.fault fault next.no_fault has
    goes_never first after told fault has (Some (Ok r), next, tells) goes = not_both ⊥ first.reader.fault fault next.no_fault has
    goes_never first after told fault has (Some (Err f), next, tells) goes = absurd (true≢false (sym goes ∙ ap goes_on tells.0))

-- what is told from the file's first byte on is a beginning of the text
pub told_front : (file : Bor (List ℕ)) (first before after : FileLines) (steps : List Step) (told : Step) (text : List ℕ) → Fresh file first → Telling first steps before →
    Stepped before told after → FileText file.now text → (rest : List ℕ) × (text ≡ (steps_text steps ++ step_text told) ++ rest)
told_front file first before after steps told text fresh telling stepped is =
    ⊎_elim
    (λ long.
    let fault : first.reader.fault ≡ Some (fault_at 0 LongFile) = fresh.reader.too_long ∙ cond-true (ltb longest_file (length file.now)) _ _ (lt-ltb longest_file (length file.now) long.0) in
    let one = fault_front steps first before after told (fault_at 0 LongFile) fault telling stepped in
    let lines = subst (λ (o : Option Fault). RecordsText None (record { read = 0; lost = 0 }) 0 [] o text) long.2
    (subst (λ (es : List Entry). RecordsText None (record { read = 0; lost = 0 }) 0 es is.ending text) long.1 is.lines) in
    ([], lines ∙ sym one.1 ∙ ap (λ (l : List Step). steps_text l ++ step_text told) (sym one.0) ∙ sym (append-nil (steps_text steps ++ step_text told))))
    (λ short.
    let clear = fresh.reader.too_long ∙ cond-false (ltb longest_file (length file.now)) _ _ (le-ltb longest_file (length file.now) short.0) in
    let bytes : left_of first.reader ≡ file.now = ap (λ n. drop n first.reader.file.now) fresh.reader.at_start ∙ ap (λ (f : Bor (List ℕ)). f.now) fresh.reader.same_file in
    left_front steps first before after told text telling stepped (record {
      records = is.records;
      ending = is.ending;
      clear = clear;
      from =
          subst (λ (t : Turn). FileFrom t first.reader.place (left_of first.reader) is.records is.ending) (sym fresh.reader.first_turn)
          (subst (λ n. FileFrom Start n (left_of first.reader) is.records is.ending) (sym fresh.reader.at_start)
          (subst (λ (l : List ℕ). FileFrom Start 0 l is.records is.ending) (sym bytes) short.1));
      told =
          subst (λ (t : Turn). RecordsText (last_card t) first.end first.reader.place is.records is.ending text) (sym fresh.reader.first_turn)
          (subst (λ n. RecordsText None first.end n is.records is.ending text) (sym fresh.reader.at_start)
          (subst (λ (e : EndLine). RecordsText None e 0 is.records is.ending text) (sym fresh.counts) is.lines));
    }))
    is.has
