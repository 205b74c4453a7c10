-- Where a record's numbers and body stand.
use Rattle.std.proofs.Common.{◌≡◌, ℕ, ◌+◌, ◌-◌, ◌<◌, ◌≤◌, List, true, length, drop, sym, refl, ap, ◌∙◌, subst, ⊎_elim, arith}
use Rattle.std.proofs.lemmas.List.{length-append, length-drop, drop-drop}
use Rattle.tray_file.specs.number.Numbers.{number_bytes}
use Rattle.tray_file.specs.number.NumberReading.{StandsFirst, NumberRefused}
use Rattle.tray_file.specs.declared.number.cause.NumberCause.{NumberCause}
use Rattle.tray_file.proofs.number_lemmas.NumberBytes.{bytes_of}
use Rattle.tray_file.specs.declared.fault.file_cause.FileCause.TheVariants as causes
use Rattle.tray_file.specs.declared.number.cause.NumberCause.TheVariants.{CutOff, BadNumber}
use Rattle.tray_file.specs.number.NumberCauses.{number_cause_number}
use Rattle.tray_file.specs.fault.Faults.{fault_at, fault_number, number_fault}
use Rattle.tray_file.specs.reader.RecordKinds.{kind_number}
use Rattle.tray_file.specs.reader.Turns.{is_in_turn, TaskFor}
use Rattle.tray_file.specs.reader.Headers.{after_number, KindStands, NoLength, NoBody, HeaderIn}
use Rattle.tray_file.specs.declared.fault.Fault.{Fault}
use Rattle.tray_file.specs.declared.reader.kind.Kind.{Kind}
use Rattle.tray_file.specs.declared.reader.turn.Turn.{Turn}
use Rattle.tray_file.specs.declared.reader.turn.Task.{Task}

-- the number of a fault at a number is that of its cause
pub number_is : (at place : ℕ) (cause : NumberCause) → fault_number (number_fault at place cause) ≡ number_cause_number cause
number_is at place CutOff = refl
number_is at place BadNumber = refl

-- the bytes at the place after a number
pub from_number : (value : ℕ) (file : List ℕ) (start end : ℕ) → end ≡ start + length (number_bytes value) →
    drop end file ≡ after_number value (drop start file)
from_number value file start end is = ap (λ n. drop n file) is ∙ sym (drop-drop (length (number_bytes value)) start file)

-- a number that stands first ends within the bytes
pub number_within : (value : ℕ) (bytes : List ℕ) → StandsFirst value bytes → length (number_bytes value) + length (after_number value bytes) ≡ length bytes
number_within value bytes first = sym (ap length first.front ∙ length-append (number_bytes value) (after_number value bytes))

pub some_bytes : (value : ℕ) → 0 < length (number_bytes value)
some_bytes value =
    ⊎_elim (λ o. omega (arith, ap length o.is)) (⊎_elim (λ o. omega (arith, ap length o.is)) (λ o. omega (arith, ap length o.is))) (bytes_of value)

-- a number of a file ends within the file
pub number_ends : (value : ℕ) (file : List ℕ) (start end : ℕ) → StandsFirst value (drop start file) → end ≡ start + length (number_bytes value) →
    (end ≤ length file) × (length (after_number value (drop start file)) ≡ length file - end)
number_ends value file start end first is =
    let some = some_bytes value in
    let within = number_within value (drop start file) first in
    let left = length-drop start file in
    (omega arith, omega arith)

-- a kind in turn, then the number after it
module _ (turn : Turn) (place : ℕ) (file : List ℕ) (kind : Kind) (number kind-end : ℕ)
    (first : StandsFirst number (drop place file)) (ends : kind-end ≡ place + length (number_bytes number))
    (is-kind : number ≡ kind_number kind) (in_turn : is_in_turn kind turn ≡ true) where
  abbrev bytes : List ℕ
  bytes = drop place file

  pub kind_stands : KindStands turn bytes kind
  kind_stands = record { stands = subst (λ n. StandsFirst n bytes) is-kind first; in_turn = in_turn }

  kind_ends : kind-end ≡ place + length (number_bytes (kind_number kind))
  kind_ends = ends ∙ ap (λ n. place + length (number_bytes n)) is-kind

  length_bytes : drop kind-end file ≡ after_number (kind_number kind) bytes
  length_bytes = from_number (kind_number kind) file place kind-end kind_ends

  pub no_length : (cause : NumberCause) (fault : Fault) → NumberRefused (drop kind-end file) cause → fault ≡ number_fault place kind-end cause →
      NoLength turn place bytes fault
  no_length cause fault refused is = record {
    kind = kind;
    first = kind_stands;
    cause = cause;
    refused = subst (λ (l : List ℕ). NumberRefused l cause) length_bytes refused;
    is = is ∙ ap (λ n. number_fault place n cause) kind_ends;
    number_is = ap fault_number is ∙ number_is place kind-end cause;
  }

  -- a length after it
  module _ (size end : ℕ) (sized : StandsFirst size (drop kind-end file)) (size-ends : end ≡ kind-end + length (number_bytes size)) where
    sized_here : StandsFirst size (after_number (kind_number kind) bytes)
    sized_here = subst (StandsFirst size) length_bytes sized

    left : length (after_number size (after_number (kind_number kind) bytes)) ≡ length file - end
    left = ap (λ (l : List ℕ). length (after_number size l)) (sym length_bytes) ∙ (number_ends size file kind-end end sized size-ends).1

    pub no_body : (fault : Fault) → length file - end < size → fault ≡ fault_at place causes.CutOff → NoBody turn place bytes fault
    no_body fault short is = record {
      kind = kind;
      first = kind_stands;
      size = size;
      sized = sized_here;
      missing = omega (arith, left);
      is = is;
      number_is = ap fault_number is;
    }

    pub header_in : (task : Task) → TaskFor kind turn task → size ≤ length file - end →
        HeaderIn turn place bytes (record { kind = kind; task = task; body = end; end = end + size })
    header_in task is_task room = record {
      first = kind_stands;
      task = is_task;
      size = size;
      sized = sized_here;
      room = omega (arith, left);
      body_place = size-ends ∙ ap (λ n. n + length (number_bytes size)) kind_ends;
      end_place = refl;
    }
