-- What the number reader answers.
use Rattle.std.specs.Prelude.{◌≡◌, ℕ, ◌+◌, ◌<◌, ◌≤◌, List, ◌++◌, length, drop, Ok, Err, Result, slice_index}
use Rattle.tray_file.specs.number.Numbers.{largest_number, most_before, number_bytes}
use Rattle.tray_file.specs.number.NumberCauses.{number_cause_number}
use Rattle.tray_file.specs.declared.number.cause.NumberCause.{NumberCause}
use Rattle.tray_file.specs.declared.number.cause.NumberCause.TheVariants.{CutOff, BadNumber}
use Rattle.tray_file.specs.declared.number.reading.NumberRead.{NumberRead}

-- the bytes begin with the writing of this number, which is not too large
pub record StandsFirst (value : ℕ) (bytes : List ℕ) : Type 0 where
  pub small : value ≤ largest_number
  pub front : bytes ≡ number_bytes value ++ drop (length (number_bytes value)) bytes

-- the bytes end inside a number: there are too few of them, and each says that another follows
pub record EndsInside (bytes : List ℕ) : Type 0 where
  pub few : length bytes ≤ most_before
  pub each : (i : ℕ) → i < length bytes → 128 ≤ slice_index bytes i

-- no number stands first, and the bytes do not end inside one
pub record NoNumber (bytes : List ℕ) : Type 0 where
  pub none : (value : ℕ) → StandsFirst value bytes → ⊥
  pub whole : EndsInside bytes → ⊥

-- why the bytes do not begin with a number: 31 where they end inside one, else 32
abbrev pub NumberRefused : List ℕ → NumberCause → Type 0
NumberRefused bytes CutOff = (number_cause_number CutOff ≡ 31) × EndsInside bytes
NumberRefused bytes BadNumber = (number_cause_number BadNumber ≡ 32) × NoNumber bytes

-- The number that stands first in the bytes from a place on, with the place after it, or why there
-- is none.
abbrev pub NumberAnswered : List ℕ → ℕ → Result NumberRead NumberCause → Type 0
NumberAnswered bytes start (Ok read) =
    StandsFirst read.value bytes × (read.end ≡ start + length (number_bytes read.value))
NumberAnswered bytes start (Err cause) = NumberRefused bytes cause
