use Rattle.std.proofs.Common.{◌≡◌, ℕ, ◌+◌, List, sym, refl, ap, ◌∙◌, arith, length-set}
use Rattle.tray_file.specs.number.NumberWriting.{put_at}
use Rattle.tray_file.proofs.number_lemmas.ReadBytes.{reads_back}
use Rattle.tray_file.proofs.number_lemmas.Worth.{written_worth}
use Rattle.tray_file.proofs.number_lemmas.WrittenBytes.{put_one, put_two, put_three, is_one, is_two, is_three}
use Rattle.tray_file.proofs.number.writing.write_number.Goals as goal
use Rattle.tray_file.proofs.number.writing.write_number.Goals.{then-start-buffer-via-then-start-buffer, then-start-buffer-via-else-start-buffer+then-buffer-start, then-size-eq1, else-size-eq1+then-size-eq2, else-size-eq1+else-size-eq2}

pub returns-then-value-gt-LARGEST_NUMBER : goal.returns-then-value-gt-LARGEST_NUMBER
returns-then-value-gt-LARGEST_NUMBER c = record { written = ((refl, c.if-value-gt-LARGEST_NUMBER.true), refl); back = reads_back; worth = written_worth }

pub returns-then-start-buffer : goal.returns-then-start-buffer
returns-then-start-buffer c =
    record {
      written = (
        (
          refl,
          c.if-value-gt-LARGEST_NUMBER.false,
          elim c.then-start-buffer.branch [ then-start-buffer-via-then-start-buffer w ↦ omega arith | then-start-buffer-via-else-start-buffer+then-buffer-start w ↦ omega arith ],
        ),
        refl,
      );
      back = reads_back;
      worth = written_worth;
    }

pub overflow_cast-buffer : goal.overflow_cast-buffer
overflow_cast-buffer c = let o = is_one c.args.value (sym c.number_length-size.ensures ∙ c.if-size-eq1.true) in omega arith

pub overflow_cast-buffer-then-size-eq2-2 : goal.overflow_cast-buffer-then-size-eq2-2
overflow_cast-buffer-then-size-eq2-2 c = let o = is_two c.args.value (sym c.number_length-size.ensures ∙ c.if-size-eq2.true) in omega arith

three : (c : goal.Else-size-eq2) → c.number_length-size.result ≡ 3
three c =
    let long = c.number_length-size.ensures in
    long ∙ (is_three c.args.value (λ e. c.if-size-eq1.false (long ∙ e)) (λ e. c.if-size-eq2.false (long ∙ e))).1

pub bounds-buffer-start-else-size-eq2 : goal.bounds-buffer-start-else-size-eq2
bounds-buffer-start-else-size-eq2 c = let size = three c in omega arith

pub bounds-buffer-start-else-size-eq2-2 : goal.bounds-buffer-start-else-size-eq2-2
bounds-buffer-start-else-size-eq2-2 c = let size = three c in simp length-set (omega arith)

pub bounds-buffer-start-else-size-eq2-3 : goal.bounds-buffer-start-else-size-eq2-3
bounds-buffer-start-else-size-eq2-3 c = let size = three c in simp length-set (omega arith)

pub returns : goal.returns
returns c =
    let v = c.args.value in
    let start = c.args.start in
    let buffer = c.args.buffer.now in
    let long = c.number_length-size.ensures in
    record {
      written = (
        omega arith,
        ap (λ n. start + n) long,
        omega arith,
        elim c.if-size-eq1.branch [
          | then-size-eq1 w ↦
              let o = is_one v (sym long ∙ w.if-size-eq1.true) in
              let size = w.if-size-eq1.true in
              w.buffer-is ∙ put_one start buffer v (omega arith) ∙ ap (λ (l : List ℕ). put_at start l buffer) (sym o.is)
          | else-size-eq1+then-size-eq2 w ↦
              let o = is_two v (sym long ∙ w.if-size-eq2.true) in
              let size = w.if-size-eq2.true in
              w.buffer-is ∙ put_two start buffer _ _ (omega arith) ∙ ap (λ (l : List ℕ). put_at start l buffer) (sym o.is)
          | else-size-eq1+else-size-eq2 w ↦
              let o = is_three v (λ e. w.if-size-eq1.false (long ∙ e)) (λ e. w.if-size-eq2.false (long ∙ e)) in
              let size = o.1 in
              w.buffer-is ∙ put_three start buffer _ _ _ (omega arith) ∙ ap (λ (l : List ℕ). put_at start l buffer) (sym o.0.is)
        ],
      );
      back = reads_back;
      worth = written_worth;
    }
