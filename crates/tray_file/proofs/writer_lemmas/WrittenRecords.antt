-- Written records stand in their turn, so they read back.
use Rattle.std.proofs.Common.{◌≡◌, ◌∙◌, ℕ, ◌*◌, ◌≤◌, List, [], ◌∷◌, ◌++◌, map, length, IfOk, Some, Ok, Err, Result, sym, refl, ap, subst, arith}
use Rattle.std.proofs.lemmas.List.{length-append, length-map}
use Rattle.std.proofs.lemmas.Option.{none-some, same_Some}
use Rattle.algebra.specs.Meaning.{Meaning}
use Rattle.fields.specs.Prime.{prime_meaning}
use Rattle.fields.specs.Binary.{binary_meaning}
use Rattle.codes.specs.AnyCards.{any_code}
use Rattle.codes.specs.Code.{Code}
use Rattle.codes.specs.Cards.{card_code}
use Rattle.codes.specs.Checked.{Checked}
use Rattle.codes.specs.Standings.{Lettered}
use Rattle.codes.specs.declared.cell.Cell.{Cell}
use Rattle.tray_file.specs.number.Numbers.{largest_number, number_bytes}
use Rattle.tray_file.specs.body.NumberLists.{numbers}
use Rattle.tray_file.specs.body.CardBodies.{card_body, CardIn}
use Rattle.tray_file.specs.body.CellBodies.{cell_number, cells_body, CellsIn, CellsUnder}
use Rattle.tray_file.specs.body.Notes.{PlainNote}
use Rattle.codes.specs.declared.any_card.AnyCard.{AnyCard}
use Rattle.codes.specs.declared.any_card.AnyCard.TheVariants.{Prime, Binary}
use Rattle.tray_file.proofs.body_lemmas.EqualCards.{card_reads_back}
use Rattle.tray_file.proofs.body_lemmas.SameCells.{cells_read_back}
use Rattle.tray_file.specs.reader.Entries.{Entry, entry, entry_bytes}
use Rattle.tray_file.specs.reader.Records.{Done, Follows}
use Rattle.tray_file.specs.declared.reader.kind.Kind.{Kind}
use Rattle.tray_file.specs.reader.Turns.{last_card}
use Rattle.tray_file.specs.reader.Readers.{left_of}
use Rattle.tray_file.specs.declared.reader.kind.Kind.TheVariants as kinds
use Rattle.tray_file.specs.declared.reader.TrayReader.{TrayReader}
use Rattle.tray_file.specs.declared.reader.turn.Turn.{Turn}
use Rattle.tray_file.specs.declared.reader.turn.Turn.TheVariants.{Start, After}
use Rattle.tray_file.specs.declared.reader.turn.Allowed.TheVariants.{EveryKind, NoNote}
use Rattle.tray_file.proofs.reader_lemmas.RecordPlaces.{first_of}
use Rattle.tray_file.proofs.reader_lemmas.OneRecord.{record_reads_back}
use Rattle.tray_file.specs.reader.RecordKinds.{kind_number}
use Rattle.tray_file.specs.writer.Writing.{RecordWritten}
use Rattle.tray_file.specs.declared.writer.write_refusal.WriteRefusal.{WriteRefusal}
use Rattle.tray_file.specs.declared.writer.write_refusal.WriteRefusal.TheVariants.{NoLetter, WrongLength, BadNote, TooSmall}
use Rattle.tray_file.specs.writer.Writers.{tray_body, CardWritten, CellsWritten, NoteWritten}
use Rattle.tray_file.specs.writer.ReadingBack.{EntryComesBack, CardComesBack, UnderCard, CellsComeBack, AfterCardOrCells, NoteComesBack, Makes, IsMade, AcceptedIsMade}
use Rattle.tray_file.proofs.writer_lemmas.Puts.{three_at_most}
use Rattle.tray_file.proofs.writer_lemmas.WritableValues.{small_cells}

pub numbers_short : (vs : List ℕ) → length (numbers vs) ≤ 3 * length vs
numbers_short [] = omega arith
numbers_short (v ∷ vs) = omega (arith, length-append (number_bytes v) (numbers vs), three_at_most v, numbers_short vs)

-- an entry that follows in every turn that is ready comes back
comes_back : (Ready : TrayReader → Type 0) (e : Entry) → ((reader : TrayReader) → Ready reader → (next : Turn) × Follows reader.turn e next) → EntryComesBack Ready e
comes_back Ready e follows before rest answer after ready clear stands step =
    let f = follows before ready in
    record_reads_back before e f.0 answer after clear (first_of (left_of before) (entry_bytes e) rest stands) f.1 step

body_short : (kind origin : ℕ) (m : Meaning) (code : Code) → Checked m code → length (card_body kind origin code) ≤ largest_number
body_short kind origin m code checked =
    omega (arith, numbers_short (kind ∷ origin ∷ code.letters ∷ length code.locators ∷ code.rows ∷ (code.locators ++ code.multipliers)), length-append code.locators code.multipliers, checked.shape.sizes.most_cells, checked.shape.a_multiplier_each)

card_in : (card : AnyCard) → CardIn (tray_body card) card
card_in (Prime card) = record { checked = card.checked; written = refl }
card_in (Binary card) = record { checked = card.checked; written = refl }

card_short : (card : AnyCard) → length (tray_body card) ≤ largest_number
card_short (Prime card) = body_short 1 card.field.prime (prime_meaning card.field) (card_code card) card.checked
card_short (Binary card) = body_short 2 card.field.modulus (binary_meaning card.field) (card_code card) card.checked

card_follows : (card : AnyCard) (turn : Turn) → (next : Turn) × Follows turn (entry kinds.Card (tray_body card)) next
card_follows card turn = (After card EveryKind, record { small = card_short card; done = (card, card_in card, refl) })

pub card_comes_back : (card : AnyCard) → CardComesBack card
card_comes_back card = record {
  answered = comes_back (λ reader. Unit {0}) (entry kinds.Card (tray_body card)) (λ reader ready. card_follows card reader.turn);
  read = λ r read. card_reads_back (tray_body card) card r (card_in card) read;
}

module _ (m : Meaning) (code : Code) (cells : List Cell) (checked : Checked m code) (count : length cells ≡ length code.locators) (lettered : Lettered code.letters cells) where
  cells_in : CellsIn (length code.locators) code.letters (cells_body cells) cells
  cells_in = record {
    count = count;
    lettered = lettered;
    small = small_cells code.letters cells (omega (arith, checked.alphabet.elements, checked.laws.bounded)) lettered;
    written = refl;
  }

  cells_short : length (cells_body cells) ≤ largest_number
  cells_short = omega (arith, numbers_short (map cell_number cells), length-map cells cell_number, checked.shape.sizes.most_cells)

  cells_done : (card : AnyCard) → length (any_code card).locators ≡ length code.locators → (any_code card).letters ≡ code.letters →
      CellsUnder card (cells_body cells) cells
  cells_done card long letters =
      subst (λ (n : ℕ). CellsIn n (any_code card).letters (cells_body cells) cells) (sym long)
      (subst (λ (q : ℕ). CellsIn (length code.locators) q (cells_body cells) cells) (sym letters) cells_in)

  -- under a card that is the last one
  under_last : (other card : AnyCard) → other ≡ card → length (any_code card).locators ≡ length code.locators → (any_code card).letters ≡ code.letters →
      CellsUnder other (cells_body cells) cells
  under_last other card same long letters =
      cells_done other (ap (λ (c : AnyCard). length (any_code c).locators) same ∙ long) (ap (λ (c : AnyCard). (any_code c).letters) same ∙ letters)

  cells_follow : (turn : Turn) (card : AnyCard) → last_card turn ≡ Some card → length (any_code card).locators ≡ length code.locators →
      (any_code card).letters ≡ code.letters → (next : Turn) × Follows turn (entry kinds.Cells (cells_body cells)) next
  cells_follow Start card last long letters = absurd (none-some card last)
  cells_follow (After other allowed) card last long letters =
      (After other EveryKind, record { small = cells_short; done = ((cells, under_last other card (same_Some other card last) long letters), refl) })

  pub cells_come_back : CellsComeBack code cells
  cells_come_back = record {
    answered = comes_back (UnderCard code) (entry kinds.Cells (cells_body cells)) (λ reader ready. cells_follow reader.turn ready.0 ready.1 ready.2 ready.3);
    read = λ buffer after r long read. cells_read_back code (cells_body cells) cells buffer after r cells_in long read;
  }

note_follows : (note : List ℕ) → PlainNote note → (turn : Turn) (card : AnyCard) → turn ≡ After card EveryKind → (next : Turn) × Follows turn (entry kinds.Note note) next
note_follows note plain turn card is = (
  After card NoNote,
  record { small = omega (arith, plain.short); done = subst (λ (t : Turn). Done kinds.Note t note (After card NoNote)) (sym is) (plain, refl) },
)

pub note_comes_back : (note : List ℕ) → PlainNote note → NoteComesBack note
note_comes_back note plain = comes_back AfterCardOrCells (entry kinds.Note note) (λ reader ready. note_follows note plain reader.turn ready.0 ready.1)

-- a fact that holds whatever is answered
pub made_always : (r : Result ℕ WriteRefusal) (P : Type 0) → P → IfOk r (λ (n : ℕ). P)
made_always (Ok n) P p = p
made_always (Err refusal) P p = tt

pub note_written : (note before after : List ℕ) (r : Result ℕ WriteRefusal) → PlainNote note → RecordWritten (kind_number kinds.Note) note before after r →
    NoteWritten note before after r
note_written note before after (Ok n) plain put = (plain, put)
note_written note before after (Err TooSmall) plain small = (refl, plain, small.1)
note_written note before after (Err NoLetter) plain never = never
note_written note before after (Err WrongLength) plain never = never
note_written note before after (Err BadNote) plain never = absurd never

-- a writer of records puts the entry's own bytes
record_made : (kind : Kind) (body : List ℕ) → Makes (RecordWritten (kind_number kind) body) (entry kind body)
record_made kind body before after (Ok n) room put = (ap (λ (n : ℕ). Ok n) put.size, put.bytes)
record_made kind body before after (Err TooSmall) room small = absurd (omega (arith, small.1.small))
record_made kind body before after (Err NoLetter) room never = absurd never
record_made kind body before after (Err WrongLength) room never = absurd never
record_made kind body before after (Err BadNote) room never = absurd never

cells_made : (card : AnyCard) (cells : List Cell) → length cells ≡ length (any_code card).locators → Lettered (any_code card).letters cells →
    Makes (CellsWritten (any_code card) cells) (entry kinds.Cells (cells_body cells))
cells_made card cells count lettered before after (Ok n) room put = record_made kinds.Cells (cells_body cells) before after (Ok n) room put.2
cells_made card cells count lettered before after (Err TooSmall) room small = record_made kinds.Cells (cells_body cells) before after (Err TooSmall) room (small.0, small.3)
cells_made card cells count lettered before after (Err WrongLength) room wrong = absurd (wrong.1 count)
cells_made card cells count lettered before after (Err NoLetter) room wrong = absurd (wrong.2 lettered)
cells_made card cells count lettered before after (Err BadNote) room never = absurd never

note_made : (note : List ℕ) → PlainNote note → Makes (NoteWritten note) (entry kinds.Note note)
note_made note plain before after (Ok n) room put = record_made kinds.Note note before after (Ok n) room put.1
note_made note plain before after (Err BadNote) room wrong = absurd (wrong.1 plain)
note_made note plain before after (Err TooSmall) room small = record_made kinds.Note note before after (Err TooSmall) room (small.0, small.2)
note_made note plain before after (Err NoLetter) room never = absurd never
note_made note plain before after (Err WrongLength) room never = absurd never

card_is_written : (body : List ℕ) (card : AnyCard) → CardIn body card → body ≡ tray_body card
card_is_written body (Prime card) is = is.written
card_is_written body (Binary card) is = is.written

under_is_made : (card : AnyCard) (body : List ℕ) (cells : List Cell) → CellsUnder card body cells → Makes (CellsWritten (any_code card) cells) (entry kinds.Cells body)
under_is_made card body cells is =
    subst (λ (l : List ℕ). Makes (CellsWritten (any_code card) cells) (entry kinds.Cells l)) (sym is.written) (cells_made card cells is.count is.lettered)

done_is_made : (kind : Kind) (turn : Turn) (body : List ℕ) (next : Turn) → Done kind turn body next → IsMade kind turn body
done_is_made kinds.Card turn body next done =
    (done.0, subst (λ (l : List ℕ). Makes (CardWritten done.0) (entry kinds.Card l)) (sym (card_is_written body done.0 done.1)) (record_made kinds.Card (tray_body done.0)))
done_is_made kinds.Cells Start body next done = absurd done
done_is_made kinds.Cells (After card allowed) body next done = (card, refl, done.0.0, under_is_made card body done.0.0 done.0.1)
done_is_made kinds.Note Start body next done = absurd done
done_is_made kinds.Note (After card EveryKind) body next done = note_made body done.0
done_is_made kinds.Note (After card NoNote) body next done = absurd done

pub accepted_is_made : AcceptedIsMade
accepted_is_made turn e next follows = done_is_made e.kind turn e.body next follows.done
