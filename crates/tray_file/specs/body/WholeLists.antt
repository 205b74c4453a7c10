-- Lists of numbers that end where the body ends.
use Rattle.std.specs.Prelude.{◌≡◌, ℕ, ◌+◌, ◌<◌, ◌⊎◌, List, ◌++◌, length, Ok, Err, Result}
use Rattle.tray_file.specs.number.NumberReading.{EndsInside, NoNumber}
use Rattle.tray_file.specs.body.NumberLists.{numbers, Small, after, Begins, Stops}
use Rattle.tray_file.specs.declared.fault.body_fault.BodyFault.{BodyFault}
use Rattle.tray_file.specs.declared.fault.body_fault.BodyFault.TheVariants.{BadNumber, BadBody, BadNote, Field, Card, Tag}
use Rattle.tray_file.specs.declared.body.whole_lists.TwoLists.{TwoLists}

-- the bytes go on after so many numbers
pub record GoesOn (wanted : ℕ) (bytes : List ℕ) : Type 0 where
  pub values : List ℕ
  pub begins : Begins values bytes
  pub all : length values ≡ wanted
  pub more : 0 < length (after values bytes)

-- The bytes are not so many numbers: a bad number comes first, or they end too early or too late.
abbrev pub ListRefused : ℕ → ℕ → List ℕ → BodyFault → Type 0
ListRefused start wanted bytes (BadNumber place) =
    (stop : Stops NoNumber wanted bytes) × (place ≡ start + length (numbers stop.values))
ListRefused start wanted bytes BadBody = Stops EndsInside wanted bytes ⊎ GoesOn wanted bytes
ListRefused start wanted bytes BadNote = ⊥
ListRefused start wanted bytes (Field fault) = ⊥
ListRefused start wanted bytes (Card cause) = ⊥
ListRefused start wanted bytes (Tag cause) = ⊥

-- the bytes are these numbers and nothing else
pub record Are (vs bytes : List ℕ) : Type 0 where
  pub small : Small vs
  pub bytes_are : bytes ≡ numbers vs

abbrev pub WholeListRead : List ℕ → ℕ → ℕ → Result (List ℕ) BodyFault → Type 0
WholeListRead bytes start count (Ok list) = Are list bytes × (length list ≡ count)
WholeListRead bytes start count (Err fault) = ListRefused start count bytes fault

abbrev pub TwoListsRead : List ℕ → ℕ → ℕ → Result TwoLists BodyFault → Type 0
TwoListsRead bytes start count (Ok lists) =
    Are (lists.locators ++ lists.multipliers) bytes × (length lists.locators ≡ count)
    × (length lists.multipliers ≡ count)
TwoListsRead bytes start count (Err fault) = ListRefused start (count + count) bytes fault
