-- Which bytes begin with a bad number, and what the bytes of a number are worth.
use Rattle.std.specs.Prelude.{◌≡◌, ℕ, suc, ◌+◌, ◌*◌, ◌^◌, ◌%◌, ◌<◌, ◌≤◌, ◌⊎◌, ◌↔◌, List, [], ◌∷◌, length, take, All, slice_index}
use Rattle.tray_file.specs.number.Numbers.{largest_number, worth}
use Rattle.tray_file.specs.number.NumberReading.{NumberRefused}
use Rattle.tray_file.specs.number.NumberWriting.{WrittenWorth}
use Rattle.tray_file.specs.declared.number.cause.NumberCause.TheVariants.{BadNumber}

-- the byte at this place says that another follows
abbrev pub ByteGoesOn : ℕ → List ℕ → Type 0
ByteGoesOn place bytes = (place < length bytes) × (128 ≤ slice_index bytes place)

-- the byte at this place does not
abbrev pub ByteEnds : ℕ → List ℕ → Type 0
ByteEnds place bytes = (place < length bytes) × (slice_index bytes place < 128)

-- the byte at this place is zero
abbrev pub ByteIsZero : ℕ → List ℕ → Type 0
ByteIsZero place bytes = (place < length bytes) × (slice_index bytes place ≡ 0)

-- the third byte says that a fourth follows
abbrev pub ThirdGoesOn : List ℕ → Type 0
ThirdGoesOn bytes = ByteGoesOn 0 bytes × ByteGoesOn 1 bytes × ByteGoesOn 2 bytes

-- the last group of two or of three is zero
abbrev pub LastIsZero : List ℕ → Type 0
LastIsZero bytes =
    (ByteGoesOn 0 bytes × ByteIsZero 1 bytes)
    ⊎ (ByteGoesOn 0 bytes × ByteGoesOn 1 bytes × ByteIsZero 2 bytes)

-- the number ends with its third byte, and is above the largest
abbrev pub AboveLargest : List ℕ → Type 0
AboveLargest bytes =
    ByteGoesOn 0 bytes × ByteGoesOn 1 bytes × ByteEnds 2 bytes
    × (largest_number < worth (take 3 bytes))

-- a bad number stands first
abbrev pub BadNumberFirst : List ℕ → Type 0
BadNumberFirst bytes = ThirdGoesOn bytes ⊎ (LastIsZero bytes ⊎ AboveLargest bytes)

-- Bytes are refused with 32 exactly where a bad number stands first.
abbrev pub BadNumberRule : Type 0
BadNumberRule =
    (bytes : List ℕ) → All (λ byte. byte < 256) bytes
    → NumberRefused bytes BadNumber ↔ BadNumberFirst bytes

-- the sum of the groups, the low seven bits of each byte, each times its power of 128
abbrev pub group_sum : ℕ → List ℕ → ℕ
group_sum place [] = 0
group_sum place (byte ∷ rest) = byte % 128 * 128 ^ place + group_sum (suc place) rest

-- What numbers are as bytes: which are bad, what bytes are worth, and that a number's bytes are
-- worth it.
pub record NumberRules : Type 0 where
  pub bad : BadNumberRule
  pub sum : (bytes : List ℕ) → worth bytes ≡ group_sum 0 bytes
  pub written : WrittenWorth
