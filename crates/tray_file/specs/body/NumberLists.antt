-- Numbers that stand one after another in a body.
use Rattle.std.specs.Prelude.{◌≡◌, ℕ, ◌+◌, ◌<◌, ◌≤◌, List, [], ◌∷◌, ◌++◌, length, drop, Ok, Err, Result}
use Rattle.tray_file.specs.number.Numbers.{largest_number, number_bytes}
use Rattle.tray_file.specs.number.NumberReading.{StandsFirst, EndsInside, NoNumber}
use Rattle.tray_file.specs.declared.number.reading.NumberRead.{NumberRead}
use Rattle.tray_file.specs.declared.fault.body_fault.BodyFault.{BodyFault}
use Rattle.tray_file.specs.declared.fault.body_fault.BodyFault.TheVariants.{BadNumber, BadBody, BadNote, Field, Card, Tag}
use Rattle.tray_file.specs.declared.body.number_list.NumberList.{NumberList}

-- the bytes of numbers, one number after another
abbrev pub numbers : List ℕ → List ℕ
numbers [] = []
numbers (v ∷ vs) = number_bytes v ++ numbers vs

-- no number is too large
abbrev pub Small : List ℕ → Type 0
Small [] = Unit {0}
Small (v ∷ vs) = (v ≤ largest_number) × Small vs

-- what follows these numbers
abbrev pub after : List ℕ → List ℕ → List ℕ
after vs bytes = drop (length (numbers vs)) bytes

-- the bytes begin with these numbers
pub record Begins (vs bytes : List ℕ) : Type 0 where
  pub small : Small vs
  pub front : bytes ≡ numbers vs ++ after vs bytes

-- Fewer numbers than are wanted stand first, and what follows them is no number, as `Missing` says.
pub record Stops (Missing : List ℕ → Type 0) (wanted : ℕ) (bytes : List ℕ) : Type 0 where
  pub values : List ℕ
  pub begins : Begins values bytes
  pub fewer : length values < wanted
  pub missing : Missing (after values bytes)

-- A number is wanted and is not there: a bad one, at its place, or the bytes end inside it.
abbrev pub NumberMissing : ℕ → ℕ → List ℕ → BodyFault → Type 0
NumberMissing start wanted bytes (BadNumber place) =
    (stop : Stops NoNumber wanted bytes) × (place ≡ start + length (numbers stop.values))
NumberMissing start wanted bytes BadBody = Stops EndsInside wanted bytes
NumberMissing start wanted bytes BadNote = ⊥
NumberMissing start wanted bytes (Field fault) = ⊥
NumberMissing start wanted bytes (Card cause) = ⊥
NumberMissing start wanted bytes (Tag cause) = ⊥

-- So many numbers stand first, with the place after them, or one of them is missing.
abbrev pub ListRead : List ℕ → ℕ → ℕ → Result NumberList BodyFault → Type 0
ListRead bytes start count (Ok list) =
    Begins list.values bytes × (list.end ≡ start + length (numbers list.values))
    × (length list.values ≡ count)
ListRead bytes start count (Err fault) = NumberMissing start count bytes fault

-- the number that stands first in a body's bytes from a place on
abbrev pub NumberIn : List ℕ → ℕ → Result NumberRead BodyFault → Type 0
NumberIn bytes start (Ok read) =
    StandsFirst read.value bytes × (read.end ≡ start + length (number_bytes read.value))
NumberIn bytes start (Err (BadNumber place)) = NoNumber bytes × (place ≡ start)
NumberIn bytes start (Err BadBody) = EndsInside bytes
NumberIn bytes start (Err BadNote) = ⊥
NumberIn bytes start (Err (Field fault)) = ⊥
NumberIn bytes start (Err (Card cause)) = ⊥
NumberIn bytes start (Err (Tag cause)) = ⊥
