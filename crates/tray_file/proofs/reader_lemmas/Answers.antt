-- Records that a reader answers one after another.
use Rattle.std.proofs.Common.{◌≡◌, ℕ, ◌+◌, ◌≤◌, List, [], ◌∷◌, ◌++◌, map, length, drop, Some, None, Ok, Err, sym, refl, ap, ◌∙◌, subst, arith}
use Rattle.std.specs.Borrow.{Bor}
use Rattle.std.proofs.lemmas.List.{length-append, drop-drop}
use Rattle.tray_file.specs.number.Numbers.{number_bytes}
use Rattle.tray_file.specs.reader.RecordKinds.{kind_number}
use Rattle.tray_file.specs.reader.Entries.{Entry, entry_of, entry_bytes}
use Rattle.tray_file.specs.reader.Files.{File}
use Rattle.tray_file.specs.reader.Readers.{left_of, Opened, Next, Run, Answers, AnswersEnd}
use Rattle.tray_file.specs.declared.fault.Fault.{Fault}
use Rattle.tray_file.specs.declared.reader.record.Record.{Record}
use Rattle.tray_file.specs.declared.reader.TrayReader.{TrayReader}
use Rattle.tray_file.proofs.reader_lemmas.HeaderPlaces.{some_bytes}
use Rattle.tray_file.proofs.reader_lemmas.Runs.{every_run}

-- a record has two bytes at least
pub entry_long : (e : Entry) → 2 ≤ length (entry_bytes e)
entry_long e =
    let kind = some_bytes (kind_number e.kind) in
    let size = some_bytes (length e.body) in
    omega (arith, length-append (number_bytes (kind_number e.kind)) (number_bytes (length e.body) ++ e.body), length-append (number_bytes (length e.body)) e.body)

-- a record that is answered leaves two bytes less at least
pub fewer_left : (before after : TrayReader) (r : Record) → Next before (Some (Ok r)) after → length (left_of after) + 2 ≤ length (left_of before)
fewer_left before after r step =
    let e = entry_of r in
    let here = step.here in
    let bytes : left_of after ≡ drop (length (entry_bytes e)) (left_of before) =
    ap (λ (f : Bor (List ℕ)). drop after.place f.now) step.same_file ∙ ap (λ n. drop n before.file.now) here.end_place
    ∙ sym (drop-drop (length (entry_bytes e)) before.place before.file.now) in
    omega (arith, entry_long e, ap length bytes, ap length here.first, length-append (entry_bytes e) (drop (length (entry_bytes e)) (left_of before)))

pub answers_end : AnswersEnd
answers_end before last [] answers = omega arith
answers_end before last (r ∷ rs) (next, step, answers) = omega (arith, answers_end next last rs answers, fewer_left before next r step)

-- one more
pub answers_more : (rs : List Record) (first before after : TrayReader) (r : Record) → Answers first rs before → Next before (Some (Ok r)) after →
    Answers first (rs ++ r ∷ []) after
answers_more [] first before after r answers step = (after, subst (λ (x : TrayReader). Next x (Some (Ok r)) after) answers step, refl)
answers_more (x ∷ rs) first before after r (next, head, answers) step = (next, head, answers_more rs next before after r answers step)

-- and then the end or a fault
run_end : (rs : List Record) (first before last : TrayReader) → Answers first rs before → Next before None last → Run first rs None last
run_end [] first before last answers step = subst (λ (x : TrayReader). Next x None last) answers step
run_end (x ∷ rs) first before last (next, head, answers) step = (next, head, run_end rs next before last answers step)

run_fault : (rs : List Record) (first before last : TrayReader) (fault : Fault) → Answers first rs before → Next before (Some (Err fault)) last →
    Run first rs (Some fault) last
run_fault [] first before last fault answers step = subst (λ (x : TrayReader). Next x (Some (Err fault)) last) answers step
run_fault (x ∷ rs) first before last fault (next, head, answers) step = (next, head, run_fault rs next before last fault answers step)

-- the file of the records that were answered
pub file_end : (file : Bor (List ℕ)) (rs : List Record) (first before last : TrayReader) → Opened file first → Answers first rs before →
    Next before None last → File file.now (map entry_of rs) None
file_end file rs first before last opened answers step = every_run file first rs None last opened (run_end rs first before last answers step)

pub file_fault : (file : Bor (List ℕ)) (rs : List Record) (first before last : TrayReader) (fault : Fault) → Opened file first → Answers first rs before →
    Next before (Some (Err fault)) last → File file.now (map entry_of rs) (Some fault)
file_fault file rs first before last fault opened answers step =
    every_run file first rs (Some fault) last opened (run_fault rs first before last fault answers step)
