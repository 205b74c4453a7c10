-- A record that stands first, in its turn, is the only answer.
use Rattle.std.proofs.Common.{◌≡◌, ℕ, ◌+◌, ◌<◌, ◌≤◌, true, false, List, [], ◌++◌, length, take, drop, Some, None, Ok, Err, Option, sym, refl, ap, ◌∙◌, subst, ap₂, ⊎_elim, arith, lit≤}
use Rattle.std.proofs.lemmas.Bool.{true≢false}
use Rattle.std.proofs.lemmas.List.{append_assoc, length-append, drop_at, take_at}
use Rattle.tray_file.specs.number.Numbers.{largest_number, number_bytes}
use Rattle.tray_file.specs.number.NumberReading.{StandsFirst, NumberRefused}
use Rattle.tray_file.specs.declared.number.cause.NumberCause.{NumberCause}
use Rattle.tray_file.specs.declared.number.cause.NumberCause.TheVariants.{CutOff, BadNumber}
use Rattle.tray_file.proofs.number_lemmas.NumberBytes.{stands, same_number, not_inside}
use Rattle.tray_file.specs.declared.fault.body_fault.BodyFault.{BodyFault}
use Rattle.tray_file.proofs.body_lemmas.OneCard.{card_never}
use Rattle.tray_file.proofs.body_lemmas.SameCells.{cells_never}
use Rattle.tray_file.specs.reader.RecordKinds.{kind_number}
use Rattle.tray_file.specs.reader.Turns.{is_in_turn}
use Rattle.tray_file.specs.reader.Entries.{Entry, entry, entry_of, part_of, entry_bytes, body_place, VeryPart}
use Rattle.tray_file.specs.reader.Headers.{after_number, NoKind, StrangeKind, NotInTurn, NoLength, NoBody, HeaderRefused}
use Rattle.tray_file.specs.reader.Records.{Done, BodyRefused, Follows, EntryFirst, KeptCells, BodyWrong, RecordRefused}
use Rattle.tray_file.specs.reader.Readers.{left_of, RecordReadsBack}
use Rattle.tray_file.specs.declared.fault.Fault.{Fault}
use Rattle.tray_file.specs.declared.reader.kind.Kind.{Kind}
use Rattle.tray_file.specs.declared.reader.kind.Kind.TheVariants as kinds
use Rattle.tray_file.specs.declared.reader.turn.Turn.{Turn}
use Rattle.tray_file.specs.declared.reader.turn.Turn.TheVariants.{Start, After}
use Rattle.tray_file.specs.declared.reader.turn.Allowed.TheVariants.{EveryKind, NoNote}
use Rattle.tray_file.proofs.reader_lemmas.HeaderPlaces.{some_bytes}

-- what is done is in turn
pub done_in_turn : (kind : Kind) (turn : Turn) (body : List ℕ) (next : Turn) → Done kind turn body next → is_in_turn kind turn ≡ true
done_in_turn kinds.Card turn body next done = refl
done_in_turn kinds.Cells Start body next done = absurd done
done_in_turn kinds.Cells (After card allowed) body next done = refl
done_in_turn kinds.Note Start body next done = absurd done
done_in_turn kinds.Note (After card EveryKind) body next done = refl
done_in_turn kinds.Note (After card NoNote) body next done = absurd done

-- a body that is refused is in turn
pub refused_in_turn : (kind : Kind) (turn : Turn) (body : List ℕ) (fault : BodyFault) → BodyRefused kind turn body fault → is_in_turn kind turn ≡ true
refused_in_turn kinds.Card turn body fault refused = refl
refused_in_turn kinds.Cells Start body fault refused = absurd refused
refused_in_turn kinds.Cells (After card allowed) body fault refused = refl
refused_in_turn kinds.Note Start body fault refused = absurd refused
refused_in_turn kinds.Note (After card EveryKind) body fault refused = refl
refused_in_turn kinds.Note (After card NoNote) body fault refused = absurd refused

-- a body that is done is not refused
body_never : (kind : Kind) (turn : Turn) (body : List ℕ) (next : Turn) (fault : BodyFault) → Done kind turn body next → BodyRefused kind turn body fault → ⊥
body_never kinds.Card turn body next fault done refused = card_never body done.0 fault done.1 refused
body_never kinds.Cells Start body next fault done refused = done
body_never kinds.Cells (After card allowed) body next fault done refused = cells_never _ _ body done.0.0 done.0.1 fault refused
body_never kinds.Note Start body next fault done refused = done
body_never kinds.Note (After card EveryKind) body next fault done refused = refused.1 done.0
body_never kinds.Note (After card NoNote) body next fault done refused = done

pub kind_small : (kind : Kind) → kind_number kind ≤ largest_number
kind_small kinds.Card = lit≤ tt
kind_small kinds.Cells = lit≤ tt
kind_small kinds.Note = lit≤ tt

pub one_kind : (a b : Kind) → kind_number a ≡ kind_number b → a ≡ b
one_kind kinds.Card kinds.Card e = refl
one_kind kinds.Card kinds.Cells e = absurd (omega arith)
one_kind kinds.Card kinds.Note e = absurd (omega arith)
one_kind kinds.Cells kinds.Card e = absurd (omega arith)
one_kind kinds.Cells kinds.Cells e = refl
one_kind kinds.Cells kinds.Note e = absurd (omega arith)
one_kind kinds.Note kinds.Card e = absurd (omega arith)
one_kind kinds.Note kinds.Cells e = absurd (omega arith)
one_kind kinds.Note kinds.Note e = refl

pub number_never : (value : ℕ) (bytes : List ℕ) (cause : NumberCause) → StandsFirst value bytes → NumberRefused bytes cause → ⊥
number_never value bytes CutOff first (number, inside) = not_inside value bytes first inside
number_never value bytes BadNumber first (number, bad) = bad.none value first

pub not_out : (kind : Kind) (turn : Turn) → is_in_turn kind turn ≡ true → is_in_turn kind turn ≡ false → ⊥
not_out kind turn e f = true≢false (sym e ∙ f)

-- what an entry that stands first tells of the bytes
module _ (e : Entry) (bytes : List ℕ) (first : EntryFirst e bytes) (small : length e.body ≤ largest_number) where
  abbrev k : ℕ
  k = kind_number e.kind

  abbrev n : ℕ
  n = length e.body

  abbrev rest : List ℕ
  rest = drop (length (entry_bytes e)) bytes

  front : bytes ≡ number_bytes k ++ (number_bytes n ++ (e.body ++ rest))
  front =
      first ∙ append_assoc (number_bytes k) (number_bytes n ++ e.body) rest ∙ ap (λ (l : List ℕ). number_bytes k ++ l) (append_assoc (number_bytes n) e.body rest)

  pub kind_first : StandsFirst k bytes
  kind_first = stands k bytes (number_bytes n ++ (e.body ++ rest)) (kind_small e.kind) front

  pub after_kind : after_number k bytes ≡ number_bytes n ++ (e.body ++ rest)
  after_kind = ap (after_number k) front ∙ drop_at (number_bytes k) (number_bytes n ++ (e.body ++ rest)) (length (number_bytes k)) refl

  pub size_first : StandsFirst n (after_number k bytes)
  size_first = stands n (after_number k bytes) (e.body ++ rest) small after_kind

  pub after_size : after_number n (after_number k bytes) ≡ e.body ++ rest
  after_size = ap (after_number n) after_kind ∙ drop_at (number_bytes n) (e.body ++ rest) (length (number_bytes n)) refl

-- two entries that stand first are one
pub same_entry : (e f : Entry) (bytes : List ℕ) → EntryFirst e bytes → length e.body ≤ largest_number → EntryFirst f bytes → length f.body ≤ largest_number → f ≡ e
same_entry e f bytes first small first-2 small-2 =
    let kinds-same = one_kind f.kind e.kind (same_number (kind_number f.kind) (kind_number e.kind) bytes (kind_first f bytes first-2 small-2) (kind_first e bytes first small)) in
    let size-2 = subst (λ (x : Kind). StandsFirst (length f.body) (after_number (kind_number x) bytes)) kinds-same (size_first f bytes first-2 small-2) in
    let sizes = same_number (length f.body) (length e.body) (after_number (kind_number e.kind) bytes) size-2 (size_first e bytes first small) in
    let joined : f.body ++ drop (length (entry_bytes f)) bytes ≡ e.body ++ drop (length (entry_bytes e)) bytes =
    sym (after_size f bytes first-2 small-2) ∙ ap₂ (λ (x : Kind) n. after_number n (after_number (kind_number x) bytes)) kinds-same sizes ∙ after_size e bytes first small in
    let bodies-same : f.body ≡ e.body =
    sym (take_at f.body (drop (length (entry_bytes f)) bytes) (length f.body) refl) ∙ ap (take (length f.body)) joined
    ∙ take_at e.body (drop (length (entry_bytes e)) bytes) (length f.body) (sym sizes) in
    ap₂ (λ (x : Kind) (l : List ℕ). entry x l) kinds-same bodies-same

-- an entry has bytes
pub empty_never : (e : Entry) (bytes : List ℕ) → EntryFirst e bytes → bytes ≡ [] → ⊥
empty_never e bytes first none =
    let some = some_bytes (kind_number e.kind) in
    omega (arith, ap length none, ap length first, length-append (entry_bytes e) (drop (length (entry_bytes e)) bytes), length-append (number_bytes (kind_number e.kind)) (number_bytes (length e.body) ++ e.body))

-- where an entry in turn stands first, its kind and its length are not refused
pub header_never : (turn : Turn) (place : ℕ) (bytes : List ℕ) (e : Entry) (fault : Fault) → EntryFirst e bytes → length e.body ≤ largest_number →
    is_in_turn e.kind turn ≡ true → HeaderRefused turn place bytes fault → ⊥
header_never turn place bytes e fault first small in_turn refused =
    let kind_stands = kind_first e bytes first small in
    let size-stands = size_first e bytes first small in
    ⊎_elim (λ (x : NoKind place bytes fault). number_never (kind_number e.kind) bytes x.cause kind_stands x.refused)
    (⊎_elim (λ (x : StrangeKind place bytes fault). x.strange e.kind (same_number x.number (kind_number e.kind) bytes x.stands kind_stands))
    (⊎_elim
    (λ (x : NotInTurn turn place bytes fault).
    let same = one_kind x.kind e.kind (same_number (kind_number x.kind) (kind_number e.kind) bytes x.stands kind_stands) in
    not_out e.kind turn in_turn (subst (λ (y : Kind). is_in_turn y turn ≡ false) same x.out))
    (⊎_elim
    (λ (x : NoLength turn place bytes fault).
    let same = one_kind x.kind e.kind (same_number (kind_number x.kind) (kind_number e.kind) bytes x.first.stands kind_stands) in
    number_never (length e.body) (after_number (kind_number e.kind) bytes) x.cause size-stands
    (subst (λ (y : Kind). NumberRefused (after_number (kind_number y) bytes) x.cause) same x.refused))
    (λ (x : NoBody turn place bytes fault).
    let same = one_kind x.kind e.kind (same_number (kind_number x.kind) (kind_number e.kind) bytes x.first.stands kind_stands) in
    let sized = subst (λ (y : Kind). StandsFirst x.size (after_number (kind_number y) bytes)) same x.sized in
    let sizes = same_number x.size (length e.body) (after_number (kind_number e.kind) bytes) sized size-stands in
    let missing = subst (λ (y : Kind). length (after_number x.size (after_number (kind_number y) bytes)) < x.size) same x.missing in
    let here = subst (λ n. length (after_number n (after_number (kind_number e.kind) bytes)) < n) sizes missing in
    omega (arith, here, ap length (after_size e bytes first small), length-append e.body (drop (length (entry_bytes e)) bytes))))))
    refused

-- where an entry stands first, in its turn, there is no fault
pub record_never : (turn : Turn) (place : ℕ) (bytes : List ℕ) (e : Entry) (next : Turn) (fault : Fault) → EntryFirst e bytes → Follows turn e next →
    RecordRefused turn place bytes fault → ⊥
record_never turn place bytes e next fault first follows refused =
    let small = follows.small in
    ⊎_elim (header_never turn place bytes e fault first small (done_in_turn e.kind turn e.body next follows.done))
    (λ (x : BodyWrong turn place bytes fault).
    let same = same_entry e x.whole bytes first small x.first x.small in
    body_never e.kind turn e.body next x.cause follows.done (subst (λ (y : Entry). BodyRefused y.kind turn y.body x.cause) same x.refused))
    refused

not_both : (o : Option Fault) (fault : Fault) → o ≡ None → o ≡ Some fault → ⊥
not_both o fault e f = let never : ◌≡◌ {A = ℕ} 0 1 = cc in absurd (omega arith)

pub record_reads_back : RecordReadsBack
record_reads_back before e next None after clear first follows step =
    absurd (empty_never e (left_of before) first step.none_left)
record_reads_back before e next (Some (Err fault)) after clear first follows step =
    absurd (⊎_elim (not_both before.fault fault clear) (λ found. record_never before.turn before.place (left_of before) e next fault first follows found.2) step.cause)
record_reads_back before e next (Some (Ok found)) after clear first follows step =
    let here = step.here in
    let same = same_entry e (entry_of found) (left_of before) first follows.small here.first here.follows.small in
    record {
      found = found;
      is = refl;
      same = same;
      end_place = here.end_place ∙ ap (λ (x : Entry). before.place + length (entry_bytes x)) same;
      follows = subst (λ (x : Entry). Follows before.turn x after.turn) same here.follows;
      very = subst (λ (x : Entry). VeryPart before.file (part_of found) (body_place before.place x)) same step.very;
      cells = subst (λ (x : Entry). KeptCells x.kind after.turn x.body before.cells.items after.cells.items) same step.cells;
      still_none = step.still_none;
      same_file = step.same_file;
    }
