-- The kinds of records.
use Rattle.std.specs.Prelude.{◌≡◌, ◌≢◌, ℕ, Ok, Err, Result}
use Rattle.tray_file.specs.declared.reader.kind.Kind.{Kind}
use Rattle.tray_file.specs.declared.reader.kind.Kind.TheVariants.{Card, Cells, Note}
use Rattle.tray_file.specs.declared.reader.kind.NoSuchKind.{NoSuchKind}

abbrev pub kind_number : Kind → ℕ
kind_number Card = 1
kind_number Cells = 2
kind_number Note = 3

-- the kind that has the number, or nothing where none has it
abbrev pub KindNamed : ℕ → Result Kind NoSuchKind → Type 0
KindNamed number (Ok kind) = number ≡ kind_number kind
KindNamed number (Err _) = (kind : Kind) → number ≢ kind_number kind
