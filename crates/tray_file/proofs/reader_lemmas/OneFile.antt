-- A file has one list of records and one end.
use Rattle.std.proofs.Common.{◌≡◌, ℕ, ◌+◌, false, List, [], ◌∷◌, length, drop, Some, None, Option, sym, refl, ap, ◌∙◌, subst, ap₂, inl, inr, arith}
use Rattle.tray_file.specs.number.Numbers.{number_bytes}
use Rattle.tray_file.specs.number.NumberReading.{StandsFirst, NumberRefused}
use Rattle.tray_file.specs.declared.number.cause.NumberCause.{NumberCause}
use Rattle.tray_file.specs.declared.number.cause.NumberCause.TheVariants.{CutOff, BadNumber}
use Rattle.tray_file.proofs.number_lemmas.NumberBytes.{same_number}
use Rattle.tray_file.specs.declared.fault.body_fault.BodyFault.{BodyFault}
use Rattle.tray_file.proofs.body_lemmas.OneFault.{one_card_fault, one_cells_fault}
use Rattle.tray_file.proofs.body_lemmas.EqualCards.{one_card}
use Rattle.tray_file.specs.fault.Faults.{number_fault, body_fault}
use Rattle.tray_file.specs.reader.RecordKinds.{kind_number}
use Rattle.tray_file.specs.reader.Turns.{is_in_turn}
use Rattle.tray_file.specs.reader.Entries.{Entry, entry_bytes, body_place}
use Rattle.tray_file.specs.reader.Headers.{after_number, NoKind, StrangeKind, NotInTurn, KindStands, NoLength, NoBody, HeaderRefused}
use Rattle.tray_file.specs.reader.Records.{Done, BodyRefused, Follows, BodyWrong, RecordRefused}
use Rattle.tray_file.specs.reader.Files.{FileFrom, OneFile}
use Rattle.tray_file.specs.declared.fault.Fault.{Fault}
use Rattle.tray_file.specs.declared.reader.kind.Kind.{Kind}
use Rattle.tray_file.specs.declared.reader.kind.Kind.TheVariants as kinds
use Rattle.tray_file.specs.declared.reader.turn.Turn.{Turn}
use Rattle.tray_file.specs.declared.reader.turn.Turn.TheVariants.{Start, After}
use Rattle.tray_file.specs.declared.reader.turn.Allowed.TheVariants.{EveryKind, NoNote}
use Rattle.tray_file.proofs.reader_lemmas.OneRecord.{one_kind, number_never, not_out, refused_in_turn, same_entry, empty_never, header_never, record_never}

-- one thing is in turn after a body
one_next : (kind : Kind) (turn : Turn) (body : List ℕ) (a b : Turn) → Done kind turn body a → Done kind turn body b → a ≡ b
one_next kinds.Card turn body a b done also = done.2 ∙ ap (λ c. After c EveryKind) (one_card body done.0 also.0 done.1 also.1) ∙ sym also.2
one_next kinds.Cells Start body a b done also = absurd done
one_next kinds.Cells (After card allowed) body a b done also = done.1 ∙ sym also.1
one_next kinds.Note Start body a b done also = absurd done
one_next kinds.Note (After card EveryKind) body a b done also = done.1 ∙ sym also.1
one_next kinds.Note (After card NoNote) body a b done also = absurd done

-- a body is refused in one way
one_body_fault : (kind : Kind) (turn : Turn) (body : List ℕ) (f g : BodyFault) → BodyRefused kind turn body f → BodyRefused kind turn body g → f ≡ g
one_body_fault kinds.Card turn body f g refused also = one_card_fault body f g refused also
one_body_fault kinds.Cells Start body f g refused also = absurd refused
one_body_fault kinds.Cells (After card allowed) body f g refused also = one_cells_fault _ _ body f g refused also
one_body_fault kinds.Note Start body f g refused also = absurd refused
one_body_fault kinds.Note (After card EveryKind) body f g refused also = refused.2 ∙ sym also.2
one_body_fault kinds.Note (After card NoNote) body f g refused also = absurd refused

-- a number is missing in one way
one_cause : (bytes : List ℕ) (c d : NumberCause) → NumberRefused bytes c → NumberRefused bytes d → c ≡ d
one_cause bytes CutOff CutOff refused also = refl
one_cause bytes CutOff BadNumber inside bad = absurd (bad.1.whole inside.1)
one_cause bytes BadNumber CutOff bad inside = absurd (bad.1.whole inside.1)
one_cause bytes BadNumber BadNumber refused also = refl

module _ (turn : Turn) (place : ℕ) (bytes : List ℕ) where
  first_kind : (a b : Kind) → StandsFirst (kind_number a) bytes → StandsFirst (kind_number b) bytes → b ≡ a
  first_kind a b first second = one_kind b a (same_number (kind_number b) (kind_number a) bytes second first)

  kind_never : (f : Fault) (value : ℕ) → NoKind place bytes f → StandsFirst value bytes → ⊥
  kind_never f value x stands = number_never value bytes x.cause stands x.refused

  strange_never : (f : Fault) (kind : Kind) → StrangeKind place bytes f → StandsFirst (kind_number kind) bytes → ⊥
  strange_never f kind x stands = x.strange kind (same_number x.number (kind_number kind) bytes x.stands stands)

  out_never : (f : Fault) (kind : Kind) → NotInTurn turn place bytes f → KindStands turn bytes kind → ⊥
  out_never f kind x first =
      not_out kind turn first.in_turn (subst (λ (y : Kind). is_in_turn y turn ≡ false) (first_kind kind x.kind first.stands x.stands) x.out)

  length_never : (f g : Fault) → NoLength turn place bytes f → NoBody turn place bytes g → ⊥
  length_never f g x y =
      let sized = subst (λ (k : Kind). StandsFirst y.size (after_number (kind_number k) bytes)) (first_kind x.kind y.kind x.first.stands y.first.stands) y.sized in
      number_never y.size (after_number (kind_number x.kind) bytes) x.cause sized x.refused

  one_no_kind : (f g : Fault) → NoKind place bytes f → NoKind place bytes g → f ≡ g
  one_no_kind f g x y = x.is ∙ ap (number_fault place place) (one_cause bytes x.cause y.cause x.refused y.refused) ∙ sym y.is

  one_no_length : (f g : Fault) → NoLength turn place bytes f → NoLength turn place bytes g → f ≡ g
  one_no_length f g x y =
      let same = first_kind x.kind y.kind x.first.stands y.first.stands in
      let refused = subst (λ (k : Kind). NumberRefused (after_number (kind_number k) bytes) y.cause) same y.refused in
      let causes = one_cause (after_number (kind_number x.kind) bytes) x.cause y.cause x.refused refused in
      x.is ∙ ap₂ (λ (k : Kind) (c : NumberCause). number_fault place (place + length (number_bytes (kind_number k))) c) (sym same) causes ∙ sym y.is

  -- the kind and the length are refused in one way
  one_header_fault : (f g : Fault) → HeaderRefused turn place bytes f → HeaderRefused turn place bytes g → f ≡ g
  one_header_fault f g (inl x) (inl y) = one_no_kind f g x y
  one_header_fault f g (inl x) (inr (inl y)) = absurd (kind_never f y.number x y.stands)
  one_header_fault f g (inl x) (inr (inr (inl y))) = absurd (kind_never f (kind_number y.kind) x y.stands)
  one_header_fault f g (inl x) (inr (inr (inr (inl y)))) = absurd (kind_never f (kind_number y.kind) x y.first.stands)
  one_header_fault f g (inl x) (inr (inr (inr (inr y)))) = absurd (kind_never f (kind_number y.kind) x y.first.stands)
  one_header_fault f g (inr (inl x)) (inl y) = absurd (kind_never g x.number y x.stands)
  one_header_fault f g (inr (inl x)) (inr (inl y)) = x.is ∙ sym y.is
  one_header_fault f g (inr (inl x)) (inr (inr (inl y))) = absurd (strange_never f y.kind x y.stands)
  one_header_fault f g (inr (inl x)) (inr (inr (inr (inl y)))) = absurd (strange_never f y.kind x y.first.stands)
  one_header_fault f g (inr (inl x)) (inr (inr (inr (inr y)))) = absurd (strange_never f y.kind x y.first.stands)
  one_header_fault f g (inr (inr (inl x))) (inl y) = absurd (kind_never g (kind_number x.kind) y x.stands)
  one_header_fault f g (inr (inr (inl x))) (inr (inl y)) = absurd (strange_never g x.kind y x.stands)
  one_header_fault f g (inr (inr (inl x))) (inr (inr (inl y))) = x.is ∙ sym y.is
  one_header_fault f g (inr (inr (inl x))) (inr (inr (inr (inl y)))) = absurd (out_never f y.kind x y.first)
  one_header_fault f g (inr (inr (inl x))) (inr (inr (inr (inr y)))) = absurd (out_never f y.kind x y.first)
  one_header_fault f g (inr (inr (inr (inl x)))) (inl y) = absurd (kind_never g (kind_number x.kind) y x.first.stands)
  one_header_fault f g (inr (inr (inr (inl x)))) (inr (inl y)) = absurd (strange_never g x.kind y x.first.stands)
  one_header_fault f g (inr (inr (inr (inl x)))) (inr (inr (inl y))) = absurd (out_never g x.kind y x.first)
  one_header_fault f g (inr (inr (inr (inl x)))) (inr (inr (inr (inl y)))) = one_no_length f g x y
  one_header_fault f g (inr (inr (inr (inl x)))) (inr (inr (inr (inr y)))) = absurd (length_never f g x y)
  one_header_fault f g (inr (inr (inr (inr x)))) (inl y) = absurd (kind_never g (kind_number x.kind) y x.first.stands)
  one_header_fault f g (inr (inr (inr (inr x)))) (inr (inl y)) = absurd (strange_never g x.kind y x.first.stands)
  one_header_fault f g (inr (inr (inr (inr x)))) (inr (inr (inl y))) = absurd (out_never g x.kind y x.first)
  one_header_fault f g (inr (inr (inr (inr x)))) (inr (inr (inr (inl y)))) = absurd (length_never g f y x)
  one_header_fault f g (inr (inr (inr (inr x)))) (inr (inr (inr (inr y)))) = x.is ∙ sym y.is

  -- a record whose body is refused is refused in one way
  one_wrong_body : (f g : Fault) → BodyWrong turn place bytes f → BodyWrong turn place bytes g → f ≡ g
  one_wrong_body f g x y =
      let same = same_entry x.whole y.whole bytes x.first x.small y.first y.small in
      let refused = subst (λ (e : Entry). BodyRefused e.kind turn e.body y.cause) same y.refused in
      let causes = one_body_fault x.whole.kind turn x.whole.body x.cause y.cause x.refused refused in
      x.is
      ∙ ap₂ (λ (e : Entry) (c : BodyFault). body_fault place (body_place place e) c) (sym same) causes
      ∙ sym y.is

  -- where no record stands in its turn there is one fault
  pub one_record_fault : (f g : Fault) → RecordRefused turn place bytes f → RecordRefused turn place bytes g → f ≡ g
  one_record_fault f g (inl x) (inl y) = one_header_fault f g x y
  one_record_fault f g (inl x) (inr y) = absurd (header_never turn place bytes y.whole f y.first y.small (refused_in_turn y.whole.kind turn y.whole.body y.cause y.refused) x)
  one_record_fault f g (inr x) (inl y) = absurd (header_never turn place bytes x.whole g x.first x.small (refused_in_turn x.whole.kind turn x.whole.body x.cause x.refused) y)
  one_record_fault f g (inr x) (inr y) = one_wrong_body f g x y

-- one thing is in turn after an entry
pub one_follows : (turn : Turn) (e : Entry) (a b : Turn) → Follows turn e a → Follows turn e b → b ≡ a
one_follows turn e a b follows also = one_next e.kind turn e.body b a also.done follows.done

one_file_from : (turn : Turn) (place : ℕ) (bytes : List ℕ) (es fs : List Entry) (a b : Option Fault) →
    FileFrom turn place bytes es a → FileFrom turn place bytes fs b → (es ≡ fs) × (a ≡ b)
one_file_from turn place bytes [] [] None None end also = (refl, refl)
one_file_from turn place bytes [] [] None (Some g) end also = absurd (omega (arith, ap length end, also.0))
one_file_from turn place bytes [] [] (Some f) None end also = absurd (omega (arith, ap length also, end.0))
one_file_from turn place bytes [] [] (Some f) (Some g) end also = (refl, ap (λ x. Some x) (one_record_fault turn place bytes f g end.1 also.1))
one_file_from turn place bytes [] (e ∷ fs) None b end (first, rest) = absurd (empty_never e bytes first end)
one_file_from turn place bytes [] (e ∷ fs) (Some f) b end (first, (next, follows, rest)) = absurd (record_never turn place bytes e next f first follows end.1)
one_file_from turn place bytes (e ∷ es) [] a None (first, rest) end = absurd (empty_never e bytes first end)
one_file_from turn place bytes (e ∷ es) [] a (Some g) (first, (next, follows, rest)) end = absurd (record_never turn place bytes e next g first follows end.1)
one_file_from turn place bytes (e ∷ es) (d ∷ fs) a b (first, (next, follows, rest)) (first_2, (next_2, follows_2, rest_2)) =
    let same = same_entry e d bytes first follows.small first_2 follows_2.small in
    let nexts = one_follows turn e next next_2 follows (subst (λ (x : Entry). Follows turn x next_2) same follows_2) in
    let there = subst (λ (x : Entry). FileFrom next_2 (place + length (entry_bytes x)) (drop (length (entry_bytes x)) bytes) fs b) same rest_2 in
    let here = subst (λ (t : Turn). FileFrom t (place + length (entry_bytes e)) (drop (length (entry_bytes e)) bytes) fs b) nexts there in
    let more = one_file_from next (place + length (entry_bytes e)) (drop (length (entry_bytes e)) bytes) es fs a b rest here in
    (ap₂ (λ (x : Entry) (l : List Entry). x ∷ l) (sym same) more.0, more.1)

pub one_file : OneFile
one_file bytes es fs a b (inl x) (inl y) = (x.1 ∙ sym y.1, x.2 ∙ sym y.2)
one_file bytes es fs a b (inl x) (inr y) = absurd (omega (arith, x.0, y.0))
one_file bytes es fs a b (inr x) (inl y) = absurd (omega (arith, x.0, y.0))
one_file bytes es fs a b (inr x) (inr y) = one_file_from Start 0 bytes es fs a b x.1 y.1
