-- The records of an inked tag, one after the other.
use Rattle.std.proofs.Common.{◌≡◌, ℕ, ◌+◌, ◌-◌, ◌≤◌, List, ◌++◌, length, map, take, Err, refl, sym, ap, ◌∙◌, subst, ap₂, subst₂, arith}
use Rattle.std.proofs.lemmas.List.{append_assoc, length-append, length-map, take_at}
use Rattle.fields.specs.Kinds.{prime_kind}
use Rattle.codes.specs.Code.{Code}
use Rattle.codes.specs.declared.cell.Cell.{Cell}
use Rattle.codes.specs.house.HouseRows.{inked, row_code}
use Rattle.tray_file.specs.body.CardBodies.{card_body}
use Rattle.tray_file.specs.body.CellBodies.{cell_number, cells_body}
use Rattle.tray_file.specs.number.Numbers.{number_bytes}
use Rattle.tray_file.specs.reader.RecordKinds.{kind_number}
use Rattle.tray_file.specs.declared.reader.kind.Kind.TheVariants.{Card, Cells}
use Rattle.tray_file.specs.writer.Writing.{Put, RecordWritten}
use Rattle.tray_file.specs.writer.Writers.{CellsWritten}
use Rattle.tray_file.specs.declared.writer.write_refusal.WriteRefusal.{WriteRefusal}
use Rattle.tray_file.specs.declared.writer.write_refusal.WriteRefusal.TheVariants.{NoLetter, WrongLength, BadNote, TooSmall}
use Rattle.tray_file.proofs.writer_lemmas.Puts.{three_at_most}
use Rattle.tray_file.proofs.writer_lemmas.WrittenRecords.{numbers_short}
use Rattle.demo.specs.Filed.{card_record, cells_record, FiledTag}

card_long : length card_record ≡ 47
unfolding card_record number_bytes
card_long = refl

-- a kind and a length in three bytes each at most, and so is each of the twenty numbers
cells_long : (cells : List Cell) → length cells ≡ 20 → length (cells_record cells) ≤ 66
unfolding cells_record
cells_long cells twenty =
    let body = cells_body cells in
    omega (
      arith,
      twenty,
      length-map cells cell_number,
      numbers_short (map cell_number cells),
      three_at_most (kind_number Cells),
      three_at_most (length body),
      length-append (number_bytes (kind_number Cells)) (number_bytes (length body) ++ body),
      length-append (number_bytes (length body)) body,
    )

inked_refused : (cells : List Cell) (before after : List ℕ) (refusal : WriteRefusal) → length before ≡ 128 → RecordWritten (kind_number Card) (card_body prime_kind 37 (row_code inked)) before after (Err refusal) → FiledTag cells (Err refusal)
unfolding card_record
inked_refused cells before after TooSmall long r = let small = r.1.small in omega (arith, card_long)
inked_refused cells before after NoLetter long r = absurd r
inked_refused cells before after WrongLength long r = absurd r
inked_refused cells before after BadNote long r = absurd r

inked_cells_refused : (cells : List Cell) (before after : List ℕ) (refusal : WriteRefusal) → length before + length card_record ≡ 128 → length cells ≡ 20 → CellsWritten (row_code inked) cells before after (Err refusal) → FiledTag cells (Err refusal)
unfolding cells_record
inked_cells_refused cells before after TooSmall long twenty r = let small = r.3.small in omega (arith, card_long, cells_long cells twenty)
inked_cells_refused cells before after NoLetter long twenty r = r.2
inked_cells_refused cells before after WrongLength long twenty r = absurd (r.1 twenty)
inked_cells_refused cells before after BadNote long twenty r = absurd r

-- two records, each at the front of what is left, stand one after the other
pub both : (first second : ℕ) (a b after1 after2 x y z : List ℕ) → first ≡ length a → second ≡ length b → after1 ≡ a ++ x → after2 ≡ b ++ y → take (first + second) (take first after1 ++ (after2 ++ z)) ≡ a ++ b
both first second a b after1 after2 x y z one two front rest =
    let head : take first after1 ≡ a = ap (take first) front ∙ take_at a x first (sym one) in
    let whole : take first after1 ++ (after2 ++ z) ≡ (a ++ b) ++ (y ++ z) =
    ap₂ (λ (l : List ℕ) (r : List ℕ). l ++ r) head (ap (λ (l : List ℕ). l ++ z) rest ∙ append_assoc b y z) ∙ sym (append_assoc a b (y ++ z)) in
    ap (take (first + second)) whole ∙ take_at (a ++ b) (y ++ z) (first + second) (omega (arith, length-append a b))

pub card_refused : (cells : List Cell) (origin : ℕ) (code : Code) (before after : List ℕ) (refusal : WriteRefusal) → origin ≡ 37 → code ≡ row_code inked → length before ≡ 128 → RecordWritten (kind_number Card) (card_body prime_kind origin code) before after (Err refusal) → FiledTag cells (Err refusal)
card_refused cells origin code before after refusal made values long r =
    inked_refused cells before after refusal long (subst₂ (λ (o : ℕ) (k : Code). RecordWritten (kind_number Card) (card_body prime_kind o k) before after (Err refusal)) made values r)

pub card_put : (origin : ℕ) (code : Code) (before after : List ℕ) (written : ℕ) → origin ≡ 37 → code ≡ row_code inked → Put (kind_number Card) (card_body prime_kind origin code) before after written → Put (kind_number Card) (card_body prime_kind 37 (row_code inked)) before after written
card_put origin code before after written made values put = subst₂ (λ (o : ℕ) (k : Code). Put (kind_number Card) (card_body prime_kind o k) before after written) made values put

pub cells_refused : (cells : List Cell) (code : Code) (before after : List ℕ) (refusal : WriteRefusal) (first : ℕ) → code ≡ row_code inked → first ≡ length card_record → first ≤ 128 → length before ≡ 128 - first → length cells ≡ 20 → CellsWritten code cells before after (Err refusal) → FiledTag cells (Err refusal)
cells_refused cells code before after refusal first values is within long twenty r =
    inked_cells_refused cells before after refusal (omega arith) twenty (subst (λ (k : Code). CellsWritten k cells before after (Err refusal)) values r)
