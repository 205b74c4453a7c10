use Rattle.std.proofs.Common.{List, ℕ, length, sym, refl, arith, rules}
use mathlib.Core.Path.{subst⁻¹}
use Rattle.tray_file.specs.reader.RecordKinds.{kind_number}
use Rattle.tray_file.specs.writer.Writing.{record_header, Put}
use Rattle.tray_file.proofs.writer_lemmas.Puts.{added_next}
use Rattle.tray_file.proofs.writer_lemmas.RecordPuts.{record_put}
use Rattle.tray_file.proofs.writer.record_writing.write_bytes.Goals as goal

pub returns : goal.returns
returns c =
    let k = kind_number c.args.kind in
    let body = c.args.body.now in
    let buffer = c.args.buffer.now in
    let put = c.in_ok-put_header.ensures in
    let whole = added_next (record_header k (length body)) body _ _ _ (omega (arith, put.0)) put.1 c.put_bytes.ensures in
    let named = sym whole.same_buffer in
    subst⁻¹ (λ (l : List ℕ). Put k body buffer l c.put_bytes.new.self.place) (search (rules, named))
    (record_put k (length body) body buffer c.put_bytes.new.self.buffer.now c.put_bytes.new.self.place refl put.0 whole.bytes_are (omega (arith, put.1.place, c.put_bytes.ensures.place)))
