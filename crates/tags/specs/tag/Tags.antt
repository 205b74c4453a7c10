-- What a tag holds, and what its calls answer.
use Rattle.std.specs.Prelude.{◌≡◌, ℕ, List, length, take, Ok, Err, Result, ◌≢◌}
use Rattle.algebra.specs.Meaning.{Arithmetic}
use Rattle.fields.specs.declared.field.Field.{Ghosts}
use Rattle.codes.specs.Code.{Code}
use Rattle.codes.specs.Cards.{card_arithmetic, card_code}
use Rattle.codes.specs.Sums.{syndromes, sums_number}
use Rattle.codes.specs.declared.cell.Cell.{Cell}
use Rattle.codes.specs.declared.syndromes.SumsRefusal.{SumsRefusal}
use Rattle.tags.specs.tag.Sheet.{width}
use Rattle.tags.specs.declared.tag.Tag.{Tag}
use Rattle.tags.specs.declared.tag.note_refusal.NoteRefusal.{NoteRefusal}
use Rattle.tags.specs.declared.tag.note_refusal.NoteRefusal.TheVariants.{NoSuchCell, NoLetter}
use Rattle.tags.specs.declared.tag.wipe_refusal.WipeRefusal as wipe
use Rattle.tags.specs.declared.tag.wipe_refusal.WipeRefusal.{WipeRefusal}

-- the code of a tag's card
abbrev pub tag_code : {F : Type 0} {g : Ghosts F} → Tag F g → Code
tag_code tag = card_code tag.card.now

-- the arithmetic of the field of a tag's card
abbrev pub tag_arithmetic : {F : Type 0} {g : Ghosts F} → Tag F g → Arithmetic
tag_arithmetic tag = card_arithmetic tag.card.now

-- a tag's n cells
abbrev pub tag_cells : {F : Type 0} {g : Ghosts F} → Tag F g → List Cell
tag_cells tag = take (width (tag_code tag)) tag.table.cells

abbrev pub note_number : NoteRefusal → ℕ
note_number NoSuchCell = 21
note_number NoLetter = 22

abbrev pub wipe_number : WipeRefusal → ℕ
wipe_number wipe.TheVariants.NoSuchCell = 21

-- The sums over a tag's noted cells stand in a buffer of as many numbers as the code has rows; else
-- the refusal is 25, and the buffer is as it was.
abbrev pub TagSummed : Arithmetic → Code → List Cell → List ℕ → List ℕ
    → Result (Unit {0}) SumsRefusal → Type 0
TagSummed A code cells before after (Ok done) =
    (length before ≡ code.rows) × (after ≡ syndromes A code cells)
TagSummed A code cells before after (Err refusal) =
    (sums_number refusal ≡ 25) × (length before ≢ code.rows) × (after ≡ before)
