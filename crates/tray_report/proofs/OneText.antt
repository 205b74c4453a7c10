-- A file has one text.
use Rattle.std.specs.Prelude.{codes}
use Rattle.std.proofs.lemmas.Option.{same_Some}
use Rattle.std.proofs.Common.{◌≡◌, ℕ, ◌+◌, List, [], ◌∷◌, ◌++◌, length, Some, None, Ok, Err, Option, Result, sym, refl, ap, ◌∙◌, subst, ap₂}
use Rattle.algebra.specs.Meaning.{Arithmetic}
use Rattle.codes.specs.Code.{Code}
use Rattle.codes.specs.AnyCards.{any_arithmetic, any_code}
use Rattle.codes.specs.declared.cell.Cell.{Cell}
use Rattle.codes.specs.declared.any_card.AnyCard.{AnyCard}
use Rattle.decoding.specs.reading.Reading.{Reading}
use Rattle.decoding.specs.declared.reading.read_answer.Counts.{Counts}
use Rattle.decoding.specs.declared.reading.read_answer.ReadRefusal.{ReadRefusal}
use Rattle.decoding.specs.declared.reading.read_answer.ReadRefusal.TheVariants.{WrongLength, TooBlank, Lost}
use Rattle.decoding.proofs.reading_lemmas.OneReading.{same}
use Rattle.tray_file.proofs.body_lemmas.EqualCards.{one_card}
use Rattle.tray_file.proofs.body_lemmas.SameCells.{same_cells}
use Rattle.tray_file.specs.body.CellBodies.{CellsUnder}
use Rattle.tray_file.specs.reader.Entries.{Entry, entry_bytes}
use Rattle.tray_file.specs.declared.fault.Fault.{Fault}
use Rattle.tray_file.specs.declared.reader.kind.Kind.{Kind}
use Rattle.tray_file.specs.declared.reader.kind.Kind.TheVariants as kind
use Rattle.tray_file.proofs.reader_lemmas.OneFile.{one_file}
use Rattle.tray_report.specs.WordReading.{CellsRead, WordFound}
use Rattle.tray_report.specs.FileLines.{CellsTold, counts_with}
use Rattle.tray_report.specs.FileText.{RecordText, RecordsText, OneText, TellingLaws, step_text}
use Rattle.tray_report.proofs.FileTexts.{every_telling, telling_ends}
use Rattle.tray_report.proofs.SomeText.{files_have_text}
use Rattle.tray_report.specs.ReportLines.{read_bytes, lost_text}
use Rattle.tray_report.specs.declared.word_read.WordRead.{WordRead}
use Rattle.tray_report.specs.declared.line.EndLine.{EndLine}
use Rattle.tray_report.specs.declared.file_lines.Step.{Step}
use Rattle.tray_report.specs.declared.file_lines.Step.TheVariants as step

-- two words, or two refusals, are the same
abbrev SameWord : Result WordRead ReadRefusal → Result WordRead ReadRefusal → Type 0
SameWord (Ok a) (Ok b) = (a.counts ≡ b.counts) × (a.letters ≡ b.letters)
SameWord (Err a) (Err b) = a ≡ b
SameWord (Ok a) (Err b) = ⊥
SameWord (Err a) (Ok b) = ⊥

module _ (A : Arithmetic) (code : Code) (cells : List Cell) where
  -- what a buffer holds after a read, where it held something else before
  moved : List ℕ → List ℕ → Result Counts ReadRefusal → List ℕ
  moved before after (Ok counts) = after
  moved before after (Err refusal) = before

  read_into : (before other after : List ℕ) (r : Result Counts ReadRefusal) → length before ≡ length code.locators → length other ≡ length code.locators →
      Reading A code cells other after r → Reading A code cells before (moved before after r) r
  unfolding moved
  read_into before other after (Ok counts) long also reads = (long, reads.1, reads.2, reads.3, reads.4)
  read_into before other after (Err WrongLength) long also reads = absurd (reads.1 also)
  read_into before other after (Err TooBlank) long also reads = (refl, long, reads.2, refl)
  read_into before other after (Err Lost) long also reads = (refl, long, reads.2, reads.3, refl)

  one_read : (after other : List ℕ) (r s : Result Counts ReadRefusal) (a : CellsRead A code cells after r) → CellsRead A code cells other s →
      (moved a.before other s ≡ after) × (s ≡ r)
  one_read after other r s a b =
      same A code cells a.before after (moved a.before other s) r s a.reading (read_into a.before b.before other s a.long b.long b.reading)

  one_word : (r s : Result WordRead ReadRefusal) → WordFound A code cells r → WordFound A code cells s → SameWord r s
  unfolding moved
  one_word (Ok a) (Ok b) found also =
      let both = one_read a.letters b.letters (Ok a.counts) (Ok b.counts) found also in
      let counts : ◌≡◌ {A = Result Counts ReadRefusal} (Ok b.counts) (Ok a.counts) = both.1 in
      let same_counts : a.counts ≡ b.counts = cc in
      (same_counts, sym both.0)
  one_word (Ok a) (Err b) found (after, also) =
      let never : ◌≡◌ {A = Result Counts ReadRefusal} (Err b) (Ok a.counts) = (one_read a.letters after (Ok a.counts) (Err b) found also).1 in cc
  one_word (Err a) (Ok b) (after, found) also =
      let never : ◌≡◌ {A = Result Counts ReadRefusal} (Ok b.counts) (Err a) = (one_read after b.letters (Err a) (Ok b.counts) found also).1 in cc
  one_word (Err a) (Err b) (after, found) (other, also) =
      let refusals : ◌≡◌ {A = Result Counts ReadRefusal} (Err b) (Err a) = (one_read after other (Err a) (Err b) found also).1 in cc

-- the same of the word under a card
one_under : (card : AnyCard) (cells : List Cell) (r s : Result WordRead ReadRefusal) → WordFound (any_arithmetic card) (any_code card) cells r →
    WordFound (any_arithmetic card) (any_code card) cells s → SameWord r s
one_under card cells r s found also = one_word (any_arithmetic card) (any_code card) cells r s found also

-- what is told of cells is one line, and counts once
pub one_told : (place : ℕ) (card : AnyCard) (cells : List Cell) (a b : Step) (counts : EndLine) → CellsTold place card cells a → CellsTold place card cells b →
    (step_text a ≡ step_text b) × (counts_with counts a ≡ counts_with counts b)
one_told place card cells (step.Read at a) (step.Read to b) counts (here, found) (there, also) =
    let words = one_under card cells (Ok a) (Ok b) found also in (
      ap (λ n. read_bytes n a.counts.wrong a.counts.blank a.letters ++ codes "\n") (here ∙ sym there)
          ∙ ap₂ (λ (c : Counts) (l : List ℕ). read_bytes to c.wrong c.blank l ++ codes "\n") words.0 words.1,
      refl,
    )
one_told place card cells (step.Lost a) (step.Lost b) counts (here, found) (there, also) = (
  ap₂ (λ n (r : ReadRefusal). lost_text (record { place = n; refusal = r }) ++ codes "\n") (here ∙ sym there) (one_under card cells (Err a.refusal) (Err b.refusal) found also),
  refl,
)
one_told place card cells (step.Read at a) (step.Lost b) counts told also = absurd (one_under card cells (Ok a) (Err b.refusal) told.1 also.1)
one_told place card cells (step.Lost a) (step.Read at b) counts told also = absurd (one_under card cells (Err a.refusal) (Ok b) told.1 also.1)
one_told place card cells (step.Read at a) step.Silent counts told never = absurd never
one_told place card cells (step.Read at a) (step.End line) counts told never = absurd never
one_told place card cells (step.Read at a) (step.Fault line) counts told never = absurd never
one_told place card cells (step.Lost a) step.Silent counts told never = absurd never
one_told place card cells (step.Lost a) (step.End line) counts told never = absurd never
one_told place card cells (step.Lost a) (step.Fault line) counts told never = absurd never
one_told place card cells step.Silent b counts never also = absurd never
one_told place card cells (step.End line) b counts never also = absurd never
one_told place card cells (step.Fault line) b counts never also = absurd never

-- the same of a body's cells, under cards that are the last one
pub one_line : (place : ℕ) (body : List ℕ) (last : Option AnyCard) (card other : AnyCard) (cells also_cells : List Cell) (a b : Step) (counts : EndLine) →
    last ≡ Some card → last ≡ Some other → CellsUnder card body cells → CellsUnder other body also_cells → CellsTold place card cells a → CellsTold place other also_cells b →
    (step_text a ≡ step_text b) × (counts_with counts a ≡ counts_with counts b)
one_line place body last card other cells also_cells a b counts is is_also under under_also told told_also =
    let cards : other ≡ card = same_Some other card (sym is_also ∙ is) in
    let under_card = subst (λ (c : AnyCard). CellsUnder c body also_cells) cards under_also in
    let told_card = subst (λ (c : AnyCard). CellsTold place c also_cells b) cards told_also in
    let same = same_cells (length (any_code card).locators) (any_code card).letters body cells under also_cells under_card in
    one_told place card cells a b counts told (subst (λ (l : List Cell). CellsTold place card l b) same told_card)

one_record : (k : Kind) (place : ℕ) (body : List ℕ) (last : Option AnyCard) (counts : EndLine) (Later : Option AnyCard → EndLine → List ℕ → Type 0) →
    ((card : Option AnyCard) (so_far : EndLine) (a b : List ℕ) → Later card so_far a → Later card so_far b → a ≡ b) →
    (a b : List ℕ) → RecordText k place body last counts Later a → RecordText k place body last counts Later b → a ≡ b
one_record kind.Card place body last counts Later one a b is also =
    one (Some is.0) counts a b is.2 (subst (λ (c : AnyCard). Later (Some c) counts b) (one_card body also.0 is.0 also.1 is.1) also.2)
one_record kind.Note place body last counts Later one a b is also = one last counts a b is also
one_record kind.Cells place body last counts Later one a b (card, is_last, cells, under, told, later, line, is, rest) (card_2, is_last_2, cells_2, under_2, told_2, later_2, line_2, is_2, rest_2) =
    let equal = one_line place body last card card_2 cells cells_2 told told_2 counts is_last is_last_2 under under_2 line line_2 in
    is ∙ ap₂ (λ (x y : List ℕ). x ++ y) equal.0 (one last (counts_with counts told) later later_2 rest (subst (λ (e : EndLine). Later last e later_2) (sym equal.1) rest_2)) ∙ sym is_2

one_records_text : (last : Option AnyCard) (counts : EndLine) (place : ℕ) (es : List Entry) (ending : Option Fault) (a b : List ℕ) →
    RecordsText last counts place es ending a → RecordsText last counts place es ending b → a ≡ b
one_records_text last counts place [] None a b is also = is ∙ sym also
one_records_text last counts place [] (Some fault) a b is also = is ∙ sym also
one_records_text last counts place (e ∷ es) ending a b is also =
    one_record e.kind place e.body last counts (λ card so_far. RecordsText card so_far (place + length (entry_bytes e)) es ending)
    (λ card so_far. one_records_text card so_far (place + length (entry_bytes e)) es ending) a b is also

pub one_text : OneText
one_text file a b is also =
    let equal = one_file file is.records also.records is.ending also.ending is.has also.has in
    let zero : EndLine = record { read = 0; lost = 0 } in
    one_records_text None zero 0 is.records is.ending a b is.lines
    (subst (λ (o : Option Fault). RecordsText None zero 0 is.records o b) (sym equal.1)
    (subst (λ (es : List Entry). RecordsText None zero 0 es also.ending b) (sym equal.0) also.lines))

pub telling_laws : TellingLaws
telling_laws = record { text = every_telling; ends = telling_ends; exists = files_have_text; one = one_text }
