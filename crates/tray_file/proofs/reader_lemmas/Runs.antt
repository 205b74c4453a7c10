-- All answers of a reader over a whole file.
use Rattle.std.proofs.Common.{◌≡◌, ℕ, ◌+◌, ltb, List, [], ◌∷◌, map, length, drop, Some, None, Option, sym, refl, ap, ◌∙◌, subst, inl, inr, ⊎_elim, arith}
use Rattle.std.specs.Borrow.{Bor}
use Rattle.std.proofs.lemmas.List.{drop-drop}
use Rattle.std.proofs.lemmas.Bool.{cases_lt, lt-ltb, le-ltb, cond-true, cond-false}
use Rattle.tray_file.specs.declared.fault.file_cause.FileCause.TheVariants.{LongFile}
use Rattle.tray_file.specs.fault.Faults.{fault_at}
use Rattle.tray_file.specs.reader.Entries.{entry_of, entry_bytes}
use Rattle.tray_file.specs.reader.Files.{FileFrom}
use Rattle.tray_file.specs.reader.FileLimits.{longest_file}
use Rattle.tray_file.specs.reader.Readers.{left_of, Run, EveryRun}
use Rattle.tray_file.specs.declared.fault.Fault.{Fault}
use Rattle.tray_file.specs.declared.reader.record.Record.{Record}
use Rattle.tray_file.specs.declared.reader.TrayReader.{TrayReader}
use Rattle.tray_file.specs.declared.reader.turn.Turn.{Turn}
use Rattle.tray_file.specs.declared.reader.turn.Turn.TheVariants.{Start}

not_both : (o : Option Fault) (fault : Fault) → o ≡ None → o ≡ Some fault → ⊥
not_both o fault e f = let never : ◌≡◌ {A = ℕ} 0 1 = cc in absurd (omega arith)

same_fault : (o : Option Fault) (a b : Fault) → o ≡ Some a → o ≡ Some b → a ≡ b
same_fault o a b e f = cc

-- the answers of a reader that has met no fault
run_from : (rs : List Record) (reader : TrayReader) (ending : Option Fault) (last : TrayReader) → reader.fault ≡ None → Run reader rs ending last →
    FileFrom reader.turn reader.place (left_of reader) (map entry_of rs) ending
run_from [] reader None last clear run = run.none_left
run_from [] reader (Some fault) last clear run =
    ⊎_elim (λ kept. absurd (not_both reader.fault fault clear kept)) (λ found. (found.1, found.2)) run.cause
run_from (r ∷ rs) reader ending last clear (next, step, run) =
    let e = entry_of r in
    let here = step.here in
    let rest = run_from rs next ending last step.still_none run in
    let bytes : left_of next ≡ drop (length (entry_bytes e)) (left_of reader) =
    ap (λ (f : Bor (List ℕ)). drop next.place f.now) step.same_file ∙ ap (λ n. drop n reader.file.now) here.end_place
    ∙ sym (drop-drop (length (entry_bytes e)) reader.place reader.file.now) in (
      here.first,
      (
        next.turn,
        here.follows,
        subst (λ (l : List ℕ). FileFrom next.turn (reader.place + length (entry_bytes e)) l (map entry_of rs) ending) bytes
            (subst (λ n. FileFrom next.turn n (left_of next) (map entry_of rs) ending) here.end_place rest),
      ),
    )

-- a reader that starts with a fault answers nothing else
run_fault : (rs : List Record) (reader : TrayReader) (ending : Option Fault) (last : TrayReader) (fault : Fault) → reader.fault ≡ Some fault → Run reader rs ending last →
    (map entry_of rs ≡ []) × (ending ≡ Some fault)
run_fault [] reader None last fault has run = absurd (not_both reader.fault fault run.no_fault has)
run_fault [] reader (Some other) last fault has run = (
  refl,
  ⊎_elim (λ kept. ap (λ (f : Fault). Some f) (same_fault reader.fault other fault kept has)) (λ found. absurd (not_both reader.fault fault found.0 has))
      run.cause,
)
run_fault (r ∷ rs) reader ending last fault has (next, step, run) = absurd (not_both reader.fault fault step.no_fault has)

pub every_run : EveryRun
every_run file reader rs ending last opened run =
    ⊎_elim
    (λ long.
    let fault = opened.too_long ∙ cond-true (ltb longest_file (length file.now)) _ _ (lt-ltb longest_file (length file.now) long) in
    let found = run_fault rs reader ending last (fault_at 0 LongFile) fault run in
    inl (long, found.0, found.1, refl))
    (λ short.
    let clear = opened.too_long ∙ cond-false (ltb longest_file (length file.now)) _ _ (le-ltb longest_file (length file.now) short) in
    let found = run_from rs reader ending last clear run in
    let bytes : left_of reader ≡ file.now = ap (λ n. drop n reader.file.now) opened.at_start ∙ ap (λ (f : Bor (List ℕ)). f.now) opened.same_file in
    inr (
      short,
      subst (λ (l : List ℕ). FileFrom Start 0 l (map entry_of rs) ending) bytes
          (subst (λ n. FileFrom Start n (left_of reader) (map entry_of rs) ending) opened.at_start
          (subst (λ (t : Turn). FileFrom t reader.place (left_of reader) (map entry_of rs) ending) opened.first_turn found)),
    ))
    (cases_lt longest_file (length file.now))
