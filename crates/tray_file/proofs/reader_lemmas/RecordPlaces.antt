-- A record's bytes, from its header and its body.
use Rattle.std.proofs.Common.{◌≡◌, ℕ, ◌+◌, ◌-◌, ◌≤◌, List, ◌++◌, length, take, drop, sym, refl, ap, ◌∙◌, subst, arith}
use Rattle.std.specs.List.{between}
use Rattle.std.proofs.lemmas.List.{append_assoc, length-append, length-drop, drop-drop, drop_at, take-append-drop, length-take-le}
use Rattle.tray_file.specs.number.Numbers.{largest_number, number_bytes}
use Rattle.tray_file.specs.number.NumberReading.{StandsFirst}
use Rattle.tray_file.specs.declared.fault.body_fault.BodyFault.{BodyFault}
use Rattle.tray_file.specs.declared.fault.body_fault.BodyFault.TheVariants as causes
use Rattle.tray_file.specs.fault.Layers.{body_fault_number}
use Rattle.tray_file.specs.fault.Faults.{body_fault, fault_number}
use Rattle.tray_file.specs.reader.RecordKinds.{kind_number}
use Rattle.tray_file.specs.reader.Entries.{entry, record_bytes, body_place}
use Rattle.tray_file.specs.reader.Headers.{after_number, HeaderIn}
use Rattle.tray_file.specs.reader.Records.{BodyRefused, Done, EntryFirst, KeptCells, BodyWrong, StepIn}
use Rattle.tray_file.specs.declared.fault.Fault.{Fault}
use Rattle.tray_file.specs.declared.reader.header.Header.{Header}
use Rattle.tray_file.specs.declared.reader.turn.Turn.{Turn}
use Rattle.codes.specs.declared.cell.Cell.{Cell}
use Rattle.tray_file.proofs.reader_lemmas.HeaderPlaces.{number_ends}

-- the number of a body's fault is that of its cause
body_number_is : (at place : ℕ) (cause : BodyFault) → fault_number (body_fault at place cause) ≡ body_fault_number cause
body_number_is at place (causes.BadNumber offset) = refl
body_number_is at place causes.BadBody = refl
body_number_is at place causes.BadNote = refl
body_number_is at place (causes.Field cause) = refl
body_number_is at place (causes.Card cause) = refl
body_number_is at place (causes.Tag cause) = refl

-- bytes that begin with some others
pub first_of : (bytes front rest : List ℕ) → bytes ≡ front ++ rest → bytes ≡ front ++ drop (length front) bytes
first_of bytes front rest e = e ∙ ap (λ (l : List ℕ). front ++ l) (sym (drop_at front rest (length front) refl) ∙ ap (drop (length front)) (sym e))

module _ (turn : Turn) (place : ℕ) (file : List ℕ) (header : Header) (h : HeaderIn turn place (drop place file) header) where
  abbrev k : ℕ
  k = kind_number header.kind

  abbrev bytes : List ℕ
  bytes = drop place file

  abbrev sized_bytes : List ℕ
  sized_bytes = after_number k bytes

  abbrev rest : List ℕ
  rest = after_number h.size sized_bytes

  abbrev body : List ℕ
  body = between header.body header.end file

  sized_at : drop (place + length (number_bytes k)) file ≡ sized_bytes
  sized_at = sym (drop-drop (length (number_bytes k)) place file)

  body_at : drop header.body file ≡ rest
  body_at =
      ap (λ n. drop n file) h.body_place ∙ sym (drop-drop (length (number_bytes h.size)) (place + length (number_bytes k)) file)
      ∙ ap (after_number h.size) sized_at

  body_within : header.body ≤ length file
  body_within =
      (number_ends h.size file (place + length (number_bytes k)) header.body (subst (StandsFirst h.size) (sym sized_at) h.sized) h.body_place).0

  pub order : header.body ≤ header.end
  order = omega (arith, h.end_place)

  rest_long : length rest ≡ length file - header.body
  rest_long = sym (ap length body_at) ∙ length-drop header.body file

  pub within : header.end ≤ length file
  within = omega (arith, h.end_place, h.room, rest_long, body_within)

  body_is : body ≡ take h.size rest
  body_is =
      let size : header.end - header.body ≡ h.size = omega (arith, h.end_place) in
      ap (λ n. take n (drop header.body file)) size ∙ ap (take h.size) body_at

  pub body_long : length body ≡ h.size
  body_long = ap length body_is ∙ length-take-le h.size rest h.room

  written : bytes ≡ record_bytes k body ++ drop h.size rest
  written =
      h.first.stands.front ∙ ap (λ (l : List ℕ). number_bytes k ++ l) (h.sized.front
      ∙ ap (λ (l : List ℕ). number_bytes h.size ++ l) (sym (take-append-drop h.size rest) ∙ ap (λ (l : List ℕ). l ++ drop h.size rest) (sym body_is))
      ∙ sym (append_assoc (number_bytes h.size) body (drop h.size rest))
      ∙ ap (λ n. (number_bytes n ++ body) ++ drop h.size rest) (sym body_long))
      ∙ sym (append_assoc (number_bytes k) (number_bytes (length body) ++ body) (drop h.size rest))

  pub entry_first : EntryFirst (entry header.kind body) bytes
  entry_first = first_of bytes (record_bytes k body) (drop h.size rest) written

  size_small : length body ≤ largest_number
  size_small = omega (arith, body_long, h.sized.small)

  ends : header.end ≡ place + length (record_bytes k body)
  ends =
      omega (arith, h.end_place, h.body_place, body_long, length-append (number_bytes k) (number_bytes (length body) ++ body), length-append (number_bytes (length body)) body, ap (λ n. length (number_bytes n)) body_long)

  place_is : header.body ≡ body_place place (entry header.kind body)
  place_is = h.body_place ∙ ap (λ n. place + length (number_bytes k) + length (number_bytes n)) (sym body_long)

  pub step_in : (next : Turn) (before after : List Cell) → Done header.kind turn body next → KeptCells header.kind next body before after →
      StepIn turn next place file before after (record { kind = header.kind; body = header.body; end = header.end })
  step_in next before after done kept = record {
    order = order;
    within = within;
    place_is = place_is;
    here = record {
      first = entry_first;
      follows = record { small = size_small; done = done };
      end_place = ends;
    };
    cells = kept;
  }

  pub body_wrong : (cause : BodyFault) (fault : Fault) → BodyRefused header.kind turn body cause → fault ≡ body_fault place header.body cause →
      BodyWrong turn place bytes fault
  body_wrong cause fault refused is = record {
    whole = entry header.kind body;
    first = entry_first;
    small = size_small;
    cause = cause;
    refused = refused;
    is = is ∙ ap (λ n. body_fault place n cause) place_is;
    number_is = ap fault_number is ∙ body_number_is place header.body cause;
  }
