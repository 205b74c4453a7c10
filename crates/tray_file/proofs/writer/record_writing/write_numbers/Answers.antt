use Rattle.std.proofs.Common.{◌≡◌, ℕ, ◌+◌, List, ◌++◌, length, sym, arith, rules}
use mathlib.Core.Path.{subst⁻¹}
use Rattle.std.proofs.lemmas.List.{length-append}
use Rattle.tray_file.specs.body.NumberLists.{numbers}
use Rattle.tray_file.specs.reader.RecordKinds.{kind_number}
use Rattle.tray_file.specs.writer.Writing.{record_header, body_numbers, Put}
use Rattle.tray_file.proofs.writer_lemmas.RecordPuts.{record_put, added_three}
use Rattle.tray_file.proofs.writer.record_writing.write_numbers.Goals as goal

sizes : (a b d : List ℕ) (n m k : ℕ) → n ≡ length a → m ≡ length b → k ≡ length d → n + m + k ≡ length (a ++ (b ++ d))
sizes a b d n m k e f g = omega (arith, length-append a (b ++ d), length-append b d)

pub returns : goal.returns
returns c =
    let k = kind_number c.args.kind in
    let body = c.args.body in
    let a = numbers body.head.now in
    let b = numbers body.first.now in
    let d = numbers body.second.now in
    let buffer = c.args.buffer.now in
    let n = c.list_length.result + c.list_length-2.result + c.list_length-3.result in
    let size : n ≡ length (body_numbers body) = sizes a b d _ _ _ c.list_length.ensures.is c.list_length-2.ensures.is c.list_length-3.ensures.is in
    let put = c.in_ok-put_header.ensures in
    let last = c.put_list-3.new.self in
    let whole = added_three (record_header k n) a b d _ _ _ _ _ (omega (arith, put.0, c.list_length.ensures.is, c.list_length-2.ensures.is, c.list_length-3.ensures.is)) put.1 c.put_list.ensures c.put_list-2.ensures c.put_list-3.ensures in
    let named = sym whole.same_buffer in
    subst⁻¹ (λ (l : List ℕ). Put k (body_numbers body) buffer l last.place) (search (rules, named))
    (record_put k n (body_numbers body) buffer last.buffer.now last.place size put.0 whole.bytes_are (omega (arith, whole.place, size, length-append (record_header k n) (body_numbers body))))
