use Rattle.std.proofs.Common.{ℕ, List, drop, sym, refl, ap, ◌∙◌, subst, inl, inr, arith}
use Rattle.std.proofs.lemmas.List.{drop_all, length-drop}
use Rattle.std.specs.Borrow.{Bor}
use Rattle.tray_file.specs.reader.Entries.{Entry, entry, part_of, body_place, VeryPart}
use Rattle.tray_file.specs.reader.Records.{RecordIn, KeptCells}
use Rattle.tray_file.proofs.reader_lemmas.Answers.{answers_end}
use Rattle.tray_file.proofs.reader_lemmas.Runs.{every_run}
use Rattle.tray_file.proofs.reader_lemmas.OneRecord.{record_reads_back}
use Rattle.tray_file.proofs.reader_lemmas.OneFile.{one_file}
use Rattle.tray_file.proofs.reader.TrayReader.next.Goals as goal

pub returns-in-Some : goal.returns-in-Some
returns-in-Some c =
    record {
      step = record { cause = inl c.in-Some.is; kept = c.in-Some.is; same_file = refl; same_place = refl; same_turn = refl; same_cells = refl };
      runs = every_run;
      ends = answers_end;
      back = record_reads_back;
      one = one_file;
    }

pub returns-then-self : goal.returns-then-self
returns-then-self c =
    record {
      step = record { no_fault = c.in_default.is; none_left = drop_all c.args.self.now.place c.args.self.now.file.now c.if-self.true; same = refl };
      runs = every_run;
      ends = answers_end;
      back = record_reads_back;
      one = one_file;
    }

pub returns-in-Ok : goal.returns-in-Ok
returns-in-Ok c =
    let reader = c.args.self.now in
    let step = c.in-Ok.step in
    let same = c.record_of.ensures.entry ∙ ap (entry step.kind) c.part-body.ensures.bytes in
    let file = reader.file in
    let here = c.in-Ok.ensures in
    record {
      step = record {
        no_fault = c.in_default.is;
        here = subst (λ (e : Entry). RecordIn reader.turn reader.place (drop reader.place file.now) e step.end c.read_record.new.turn) (sym same) here.here;
        very = subst (λ (e : Entry). VeryPart file (part_of c.record_of.result) (body_place reader.place e)) (sym same)
            (subst (VeryPart file (part_of c.record_of.result)) here.place_is (subst (λ (p : Bor (List ℕ)). VeryPart file p step.body) (sym c.record_of.ensures.part) c.part-body.ensures.very));
        cells = subst (λ (e : Entry). KeptCells e.kind c.read_record.new.turn e.body reader.cells.items c.read_record.new.cells.items) (sym same) here.cells;
        still_none = c.in_default.is;
        same_file = refl;
      };
      runs = every_run;
      ends = answers_end;
      back = record_reads_back;
      one = one_file;
    }

pub returns-in-Err : goal.returns-in-Err
returns-in-Err c =
    let reader = c.args.self.now in
    let long = length-drop reader.place reader.file.now in
    record {
      step = record {
        cause = inr (c.in_default.is, omega (arith, long, c.if-self.false), c.in-Err.ensures.0);
        kept = refl;
        same_file = refl;
        same_place = refl;
        same_turn = c.in-Err.ensures.1;
        same_cells = c.in-Err.ensures.2;
      };
      runs = every_run;
      ends = answers_end;
      back = record_reads_back;
      one = one_file;
    }
