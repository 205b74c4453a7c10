use Rattle.std.proofs.Common.{refl}
use Rattle.tray_file.specs.writer.ReadingBack.{NoteComesBack}
use Rattle.tray_file.proofs.writer_lemmas.WrittenRecords.{note_comes_back, note_written, made_always}
use Rattle.tray_file.proofs.writer.note_writing.write_note.Goals as goal

pub returns : goal.returns
returns c =
    let note = c.args.note.now in
    let plain = c.if-not-is_plain.ensures.0 refl in
    record {
      written = note_written note c.args.buffer.now c.write_bytes.new.buffer c.write_bytes.result plain c.write_bytes.ensures;
      back = made_always c.write_bytes.result (NoteComesBack note) (note_comes_back note plain);
    }
