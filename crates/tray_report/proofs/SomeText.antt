-- A file that has records and an end has a text.
use Rattle.std.proofs.Common.{◌≡◌, ℕ, ◌+◌, List, [], ◌∷◌, ◌++◌, length, drop, replicate, Some, None, Ok, Err, Option, Result, refl, ap, subst, inl, inr}
use lib.ListN.{length-replicate}
use Rattle.codes.specs.AnyCards.{any_arithmetic, any_code}
use Rattle.codes.specs.Cards.{card_code}
use Rattle.codes.specs.declared.any_card.AnyCard.{AnyCard}
use Rattle.codes.specs.declared.any_card.AnyCard.TheVariants.{Prime, Binary}
use Rattle.codes.specs.declared.cell.Cell.{Cell}
use Rattle.decoding.specs.reading.Reading.{Reading}
use Rattle.decoding.specs.declared.reading.read_answer.Counts.{Counts}
use Rattle.decoding.specs.declared.reading.read_answer.ReadRefusal.{ReadRefusal}
use Rattle.decoding.proofs.reading_lemmas.OneReading.{one_reading}
use Rattle.fields.specs.Prime.{prime_meaning}
use Rattle.fields.specs.Binary.{binary_meaning}
use Rattle.tray_file.specs.declared.fault.file_cause.FileCause.TheVariants.{LongFile}
use Rattle.tray_file.specs.fault.Faults.{fault_at}
use Rattle.tray_file.specs.body.CellBodies.{CellsUnder}
use Rattle.tray_file.specs.reader.Entries.{Entry, entry_bytes}
use Rattle.tray_file.specs.reader.Files.{FileFrom}
use Rattle.tray_file.specs.reader.Records.{Done}
use Rattle.tray_file.specs.reader.Turns.{last_card}
use Rattle.tray_file.specs.declared.fault.Fault.{Fault}
use Rattle.tray_file.specs.declared.reader.kind.Kind.{Kind}
use Rattle.tray_file.specs.declared.reader.kind.Kind.TheVariants as kind
use Rattle.tray_file.specs.declared.reader.turn.Turn.{Turn}
use Rattle.tray_file.specs.declared.reader.turn.Turn.TheVariants.{Start, After}
use Rattle.tray_report.specs.WordReading.{CellsFit}
use Rattle.tray_report.specs.FileLines.{CellsTold, counts_with}
use Rattle.tray_report.specs.FileText.{RecordText, RecordsText, FilesHaveText, step_text}
use Rattle.tray_report.specs.declared.line.EndLine.{EndLine}
use Rattle.tray_report.specs.declared.file_lines.Step.{Step}
use Rattle.tray_report.specs.declared.file_lines.Step.TheVariants as step
use Rattle.tray_report.proofs.Turns.{cells_keep, note_keeps, cells_fit}

-- what is told of a reading
told_by : (place : ℕ) (card : AnyCard) (cells : List Cell) (before after : List ℕ) (answer : Result Counts ReadRefusal) → length before ≡ length (any_code card).locators →
    Reading (any_arithmetic card) (any_code card) cells before after answer → (told : Step) × CellsTold place card cells told
told_by place card cells before after (Ok counts) long reading =
    (step.Read place (record { counts = counts; letters = after }), (refl, record { before = before; long = long; reading = reading }))
told_by place card cells before after (Err refusal) long reading =
    (step.Lost (record { place = place; refusal = refusal }), (refl, (after, record { before = before; long = long; reading = reading })))

-- something is told of cells under a card
told_of : (place : ℕ) (card : AnyCard) (cells : List Cell) → CellsFit (any_code card) cells → (told : Step) × CellsTold place card cells told
told_of place (Prime card) cells fit =
    let before = replicate (length (card_code card).locators) 0 in
    let read = one_reading (prime_meaning card.field) (card_code card) card.checked cells fit.count fit.lettered before in
    told_by place (Prime card) cells before read.0 read.1 (length-replicate (length (card_code card).locators) 0) read.2
told_of place (Binary card) cells fit =
    let before = replicate (length (card_code card).locators) 0 in
    let read = one_reading (binary_meaning card.field) (card_code card) card.checked cells fit.count fit.lettered before in
    told_by place (Binary card) cells before read.0 read.1 (length-replicate (length (card_code card).locators) 0) read.2

-- a record has a text, if what comes after it has one
module _ (place : ℕ) (body : List ℕ) (turn next : Turn) (counts : EndLine) (Later : Option AnyCard → EndLine → List ℕ → Type 0)
    (later : (so_far : EndLine) → (text : List ℕ) × Later (last_card next) so_far text) where
  cells_text : (card : AnyCard) (cells : List Cell) → last_card turn ≡ Some card → last_card next ≡ last_card turn → CellsUnder card body cells →
      (text : List ℕ) × RecordText kind.Cells place body (last_card turn) counts Later text
  cells_text card cells last keep under =
      let told = told_of place card cells (cells_fit card body cells under) in
      let rest = later (counts_with counts told.0) in (
        step_text told.0 ++ rest.0,
        (
          card,
          last,
          cells,
          under,
          told.0,
          rest.0,
          told.1,
          refl,
          subst (λ (c : Option AnyCard). Later c (counts_with counts told.0) rest.0) keep rest.1,
        ),
      )

record_text : (k : Kind) (place : ℕ) (body : List ℕ) (turn next : Turn) (counts : EndLine) (Later : Option AnyCard → EndLine → List ℕ → Type 0) →
    ((so_far : EndLine) → (text : List ℕ) × Later (last_card next) so_far text) → Done k turn body next →
    (text : List ℕ) × RecordText k place body (last_card turn) counts Later text
record_text kind.Card place body turn next counts Later later done =
    let rest = later counts in
    (rest.0, (done.0, done.1, subst (λ (c : Option AnyCard). Later c counts rest.0) (ap last_card done.2) rest.1))
record_text kind.Note place body turn next counts Later later done =
    let rest = later counts in
    (rest.0, subst (λ (c : Option AnyCard). Later c counts rest.0) (note_keeps turn next body done) rest.1)
record_text kind.Cells place body Start next counts Later later done = absurd done
record_text kind.Cells place body (After card allowed) next counts Later later done =
    cells_text place body (After card allowed) next counts Later later card done.0.0 refl (cells_keep (After card allowed) next body done) done.0.1

records_text : (es : List Entry) (turn : Turn) (place : ℕ) (bytes : List ℕ) (ending : Option Fault) → FileFrom turn place bytes es ending → (counts : EndLine) →
    (text : List ℕ) × RecordsText (last_card turn) counts place es ending text
records_text [] turn place bytes None from counts = (step_text (step.End counts), refl)
records_text [] turn place bytes (Some fault) from counts = (step_text (step.Fault (record { fault = fault })), refl)
records_text (e ∷ es) turn place bytes ending (first, (next, follows, from)) counts =
    let end = place + length (entry_bytes e) in
    record_text e.kind place e.body turn next counts (λ card so_far. RecordsText card so_far end es ending)
    (records_text es next end (drop (length (entry_bytes e)) bytes) ending from) follows.done

pub files_have_text : FilesHaveText
files_have_text file es ending (inl long) =
    let fault = fault_at 0 LongFile in (
      step_text (step.Fault (record { fault = fault })),
      record { records = []; ending = Some fault; has = inl (long.0, refl, refl, long.3); lines = refl },
    )
files_have_text file es ending (inr short) =
    let text = records_text es Start 0 file ending short.1 (record { read = 0; lost = 0 }) in
    (text.0, record { records = es; ending = ending; has = inr short; lines = text.1 })
