-- A whole file: the records that it has, and how it ends.
use Rattle.std.specs.Prelude.{◌≡◌, ℕ, ◌+◌, ◌<◌, ◌≤◌, ◌⊎◌, List, [], ◌∷◌, length, drop, Some, None, Option}
use Rattle.tray_file.specs.declared.fault.file_cause.FileCause.TheVariants.{LongFile}
use Rattle.tray_file.specs.fault.Faults.{fault_at, fault_number}
use Rattle.tray_file.specs.reader.FileLimits.{longest_file}
use Rattle.tray_file.specs.reader.Entries.{Entry, entry_bytes}
use Rattle.tray_file.specs.reader.Records.{EntryFirst, Follows, RecordRefused}
use Rattle.tray_file.specs.declared.fault.Fault.{Fault}
use Rattle.tray_file.specs.declared.reader.turn.Turn.{Turn}
use Rattle.tray_file.specs.declared.reader.turn.Turn.TheVariants.{Start}

-- The bytes from a place on have these records, one after another, each in its turn, and end there,
-- or have a fault where the next should stand.
abbrev pub FileFrom : Turn → ℕ → List ℕ → List Entry → Option Fault → Type 0
FileFrom turn place bytes [] None = bytes ≡ []
FileFrom turn place bytes [] (Some fault) =
    (0 < length bytes) × RecordRefused turn place bytes fault
FileFrom turn place bytes (e ∷ es) ending =
    EntryFirst e bytes
    × ((next : Turn) × Follows turn e next
    × FileFrom next (place + length (entry_bytes e)) (drop (length (entry_bytes e)) bytes)
    es ending)

-- A file that is too long has that fault, at 0, and no record; any other has what its bytes have
-- from the start on.
abbrev pub File : List ℕ → List Entry → Option Fault → Type 0
File bytes es ending =
    ((longest_file < length bytes) × (es ≡ []) × (ending ≡ Some (fault_at 0 LongFile))
    × (fault_number (fault_at 0 LongFile) ≡ 37))
    ⊎ ((length bytes ≤ longest_file) × FileFrom Start 0 bytes es ending)

-- A file has only one list of records and only one end.
abbrev pub OneFile : Type 0
OneFile =
    (bytes : List ℕ) (es fs : List Entry) (a b : Option Fault) → File bytes es a → File bytes fs b
    → (es ≡ fs) × (a ≡ b)
