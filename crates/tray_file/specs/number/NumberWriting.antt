-- What the number writer writes, and that it reads back.
use Rattle.std.specs.Prelude.{◌≡◌, ℕ, ◌+◌, ◌<◌, ◌≤◌, List, ◌++◌, length, take, drop, Ok, Err, Result}
use Rattle.tray_file.specs.number.Numbers.{largest_number, number_bytes, worth}
use Rattle.tray_file.specs.number.NumberReading.{NumberAnswered}
use Rattle.tray_file.specs.declared.number.cause.NumberCause.{NumberCause}
use Rattle.tray_file.specs.declared.number.reading.NumberRead.{NumberRead}
use Rattle.tray_file.specs.declared.number.writing.WriteCause.{WriteCause}
use Rattle.tray_file.specs.declared.number.writing.WriteCause.TheVariants.{BadNumber, TooSmall}

abbrev pub write_cause_number : WriteCause → ℕ
write_cause_number BadNumber = 32
write_cause_number TooSmall = 38

-- the buffer with these bytes from a place on, the rest as it was
abbrev pub put_at : ℕ → List ℕ → List ℕ → List ℕ
put_at start bytes buffer = take start buffer ++ (bytes ++ drop (start + length bytes) buffer)

-- the first that applies: 32 where the number is too large, or 38 where the buffer has no room for
-- it from the place on
abbrev pub WriteRefused : ℕ → ℕ → List ℕ → WriteCause → Type 0
WriteRefused value start buffer BadNumber =
    (write_cause_number BadNumber ≡ 32) × (largest_number < value)
WriteRefused value start buffer TooSmall =
    (write_cause_number TooSmall ≡ 38)
    × (value ≤ largest_number) × (length buffer < start + length (number_bytes value))

-- The number's bytes stand in the buffer, or a refusal is given in its case and the buffer is as it
-- was.
abbrev pub NumberWritten : ℕ → ℕ → List ℕ → List ℕ → Result ℕ WriteCause → Type 0
NumberWritten value start before after (Ok end) =
    (value ≤ largest_number) × (end ≡ start + length (number_bytes value)) × (end ≤ length before)
    × (after ≡ put_at start (number_bytes value) before)
NumberWritten value start before after (Err cause) =
    WriteRefused value start before cause × (after ≡ before)

-- What the reader answers to a written number, whatever follows it, is that number, and the place
-- after it.
abbrev pub ReadsBack : Type 0
ReadsBack =
    (value start : ℕ) (rest : List ℕ) (answer : Result NumberRead NumberCause)
    → value ≤ largest_number → NumberAnswered (number_bytes value ++ rest) start answer
    → answer ≡ Ok (record { value = value; end = start + length (number_bytes value) })

-- A number's bytes are worth that number.
abbrev pub WrittenWorth : Type 0
WrittenWorth = (value : ℕ) → value ≤ largest_number → worth (number_bytes value) ≡ value
