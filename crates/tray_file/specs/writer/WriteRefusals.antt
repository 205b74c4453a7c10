-- The number of each refusal of the writers.
use Rattle.std.specs.Prelude.{ℕ}
use Rattle.tray_file.specs.declared.writer.write_refusal.WriteRefusal.{WriteRefusal}
use Rattle.tray_file.specs.declared.writer.write_refusal.WriteRefusal.TheVariants.{NoLetter, WrongLength, BadNote, TooSmall}

abbrev pub write_refusal_number : WriteRefusal → ℕ
write_refusal_number NoLetter = 22
write_refusal_number WrongLength = 25
write_refusal_number BadNote = 36
write_refusal_number TooSmall = 38
