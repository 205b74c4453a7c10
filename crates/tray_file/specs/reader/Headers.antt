-- A record's kind and length.
use Rattle.std.specs.Prelude.{◌≡◌, ℕ, ◌+◌, ◌<◌, ◌≤◌, ◌⊎◌, true, false, List, length, drop, Ok, Err, Result}
use Rattle.tray_file.specs.number.Numbers.{number_bytes}
use Rattle.tray_file.specs.number.NumberCauses.{number_cause_number}
use Rattle.tray_file.specs.number.NumberReading.{StandsFirst, NumberRefused}
use Rattle.tray_file.specs.declared.number.cause.NumberCause.{NumberCause}
use Rattle.tray_file.specs.declared.number.reading.NumberRead.{NumberRead}
use Rattle.tray_file.specs.declared.fault.file_cause.FileCause.TheVariants.{CutOff, StrangeRecord, OutOfTurn}
use Rattle.tray_file.specs.fault.Faults.{fault_at, fault_number, number_fault}
use Rattle.tray_file.specs.reader.RecordKinds.{kind_number}
use Rattle.tray_file.specs.reader.Turns.{is_in_turn, TaskFor}
use Rattle.tray_file.specs.declared.fault.Fault.{Fault}
use Rattle.tray_file.specs.declared.reader.kind.Kind.{Kind}
use Rattle.tray_file.specs.declared.reader.turn.Turn.{Turn}
use Rattle.tray_file.specs.declared.reader.header.Header.{Header}

-- what follows a number
abbrev pub after_number : ℕ → List ℕ → List ℕ
after_number value bytes = drop (length (number_bytes value)) bytes

-- no number stands where the kind should
pub record NoKind (place : ℕ) (bytes : List ℕ) (fault : Fault) : Type 0 where
  pub cause : NumberCause
  pub refused : NumberRefused bytes cause
  pub is : fault ≡ number_fault place place cause
  pub number_is : fault_number fault ≡ number_cause_number cause

-- the number of no kind
pub record StrangeKind (place : ℕ) (bytes : List ℕ) (fault : Fault) : Type 0 where
  pub number : ℕ
  pub stands : StandsFirst number bytes
  pub strange : (kind : Kind) → number ≡ kind_number kind → ⊥
  pub is : fault ≡ fault_at place StrangeRecord
  pub number_is : fault_number fault ≡ 33

-- a kind that is out of turn
pub record NotInTurn (turn : Turn) (place : ℕ) (bytes : List ℕ) (fault : Fault) : Type 0 where
  pub kind : Kind
  pub stands : StandsFirst (kind_number kind) bytes
  pub out : is_in_turn kind turn ≡ false
  pub is : fault ≡ fault_at place OutOfTurn
  pub number_is : fault_number fault ≡ 34

-- a kind in turn stands first
pub record KindStands (turn : Turn) (bytes : List ℕ) (kind : Kind) : Type 0 where
  pub stands : StandsFirst (kind_number kind) bytes
  pub in_turn : is_in_turn kind turn ≡ true

-- no number stands where the length should
pub record NoLength (turn : Turn) (place : ℕ) (bytes : List ℕ) (fault : Fault) : Type 0 where
  pub kind : Kind
  pub first : KindStands turn bytes kind
  pub cause : NumberCause
  pub refused : NumberRefused (after_number (kind_number kind) bytes) cause
  pub is : fault ≡ number_fault place (place + length (number_bytes (kind_number kind))) cause
  pub number_is : fault_number fault ≡ number_cause_number cause

-- the file ends before the body does
pub record NoBody (turn : Turn) (place : ℕ) (bytes : List ℕ) (fault : Fault) : Type 0 where
  pub kind : Kind
  pub first : KindStands turn bytes kind
  pub size : ℕ
  pub sized : StandsFirst size (after_number (kind_number kind) bytes)
  pub missing : length (after_number size (after_number (kind_number kind) bytes)) < size
  pub is : fault ≡ fault_at place CutOff
  pub number_is : fault_number fault ≡ 31

abbrev pub HeaderRefused : Turn → ℕ → List ℕ → Fault → Type 0
HeaderRefused turn place bytes fault =
    NoKind place bytes fault
    ⊎ (StrangeKind place bytes fault
    ⊎ (NotInTurn turn place bytes fault
    ⊎ (NoLength turn place bytes fault ⊎ NoBody turn place bytes fault)))

-- a kind in turn, a length, and so many bytes after it
pub record HeaderIn (turn : Turn) (place : ℕ) (bytes : List ℕ) (header : Header) : Type 0 where
  pub first : KindStands turn bytes header.kind
  pub task : TaskFor header.kind turn header.task
  pub size : ℕ
  pub sized : StandsFirst size (after_number (kind_number header.kind) bytes)
  pub room : size ≤ length (after_number size (after_number (kind_number header.kind) bytes))
  pub body_place : header.body
      ≡ place + length (number_bytes (kind_number header.kind)) + length (number_bytes size)
  pub end_place : header.end ≡ header.body + size

abbrev pub HeaderRead : Turn → ℕ → List ℕ → Result Header Fault → Type 0
HeaderRead turn place bytes (Ok header) = HeaderIn turn place bytes header
HeaderRead turn place bytes (Err fault) = HeaderRefused turn place bytes fault

-- the number that stands first, or the fault that it makes in its record
abbrev pub NumberAt : List ℕ → ℕ → ℕ → Result NumberRead Fault → Type 0
NumberAt bytes start record_place (Ok read) =
    StandsFirst read.value bytes × (read.end ≡ start + length (number_bytes read.value))
NumberAt bytes start record_place (Err fault) =
    (cause : NumberCause) × NumberRefused bytes cause
    × (fault ≡ number_fault record_place start cause)
