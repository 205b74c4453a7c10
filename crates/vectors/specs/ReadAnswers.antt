-- The text that answers the reading of a tag.
use Rattle.std.specs.Prelude.{◌≡◌, ◌⊎◌, ℕ, ◌+◌, List, [], ◌∷◌, ◌++◌, Some, None, Option, Ok, Err, Result, map, length, replicate, codes, decimal, flat_map, slice_index_or}
use Rattle.std.specs.Borrow.{Bor}
use Rattle.std.specs.List.{range_with_len}
use Rattle.algebra.specs.Meaning.{Meaning, Arithmetic}
use Rattle.codes.specs.Code.{Code}
use Rattle.codes.specs.Cells.{blank_cell}
use Rattle.codes.specs.Checked.{Checked}
use Rattle.codes.specs.WordText.{word_text}
use Rattle.codes.specs.declared.cell.Cell.{Cell}
use Rattle.decoding.specs.reading.Reading.{read_number}
use Rattle.decoding.specs.declared.reading.read_answer.Counts.{Counts}
use Rattle.decoding.specs.declared.reading.read_answer.ReadRefusal.{ReadRefusal}
use Rattle.tags.specs.runs.Calls.{call_of}
use Rattle.tags.specs.runs.Runs.{RunLaw}
use Rattle.tags.specs.declared.runs.call.Call.{Call}
use Rattle.tags.specs.declared.runs.call.Call.TheVariants as call
use Rattle.tags.specs.declared.runs.event.Event.{Event}
use Rattle.tags.specs.declared.runs.event.Event.TheVariants as event
use Rattle.vectors.specs.Answers.{RefusedText, CardRefusedText}
use Rattle.vectors.specs.Parts.{part, cells_in, code_in}

-- the note of a letter at place j, in cell j + 1; none for a blank
abbrev pub note_of : ℕ → Option ℕ → List Call
note_of j None = []
note_of j (Some letter) = call.Note (j + 1) letter ∷ []

abbrev pub note_at : List Cell → ℕ → List Call
note_at cells j = note_of j (slice_index_or cells j blank_cell).letter

-- a note of each noted cell in order, and a read into `size` numbers
abbrev pub notes_and_read : List Cell → ℕ → List Call
notes_and_read cells size =
    flat_map (note_at cells) (range_with_len 0 (length cells)) ++ call.Read size ∷ []

-- the counts and the word, or the refusal
abbrev pub ReadText : Result Counts ReadRefusal → List ℕ → List ℕ → Type 0
ReadText (Ok counts) word text =
    text ≡ decimal counts.wrong
    ++ (codes " wrong, " ++ (decimal counts.blank ++ (codes " blank, word" ++ word_text word)))
ReadText (Err refusal) word text = RefusedText (read_number refusal) text

-- the last event is a read, and the text is its answer's
abbrev pub LastReadText : List Event → List ℕ → Type 0
LastReadText journal text =
    (earlier : List Event) × (answer : Result Counts ReadRefusal) × (shown : Bor (List ℕ))
    × (journal ≡ earlier ++ event.Read answer shown ∷ []) × ReadText answer shown.now text

-- the calls are made in this room, by the law of runs, and the text is the last one's
abbrev pub PlayedText : Arithmetic → Code → List ℕ → List Call → List ℕ → Type 0
PlayedText A code room calls text =
    (journal : List Event) × (map call_of journal ≡ calls) × RunLaw A code room journal
    × LastReadText journal text

-- a fresh tag's cells are noted and read into zeros, and the text is the read's
abbrev pub RunText : Arithmetic → Code → List Cell → List ℕ → Type 0
RunText A code cells text =
    PlayedText A code (replicate (length code.locators) 0)
    (notes_and_read cells (length code.locators)) text

-- of a code, and cells: the code is checked and the cells are read, or the first rule that it
-- breaks is told
abbrev pub CardReads : Meaning → Code → List Cell → List ℕ → Type 0
CardReads m code cells text =
    (Checked m code × RunText m.arithmetic code cells text) ⊎ CardRefusedText m code text

-- of the letters, the rows, and a text of locators; multipliers; cells
abbrev pub ReadAnswered : Meaning → List ℕ → List ℕ → List ℕ → Type 0
ReadAnswered m numbers rest text =
    (letters : ℕ) × (rows : ℕ) × (numbers ≡ letters ∷ rows ∷ [])
    × CardReads m (code_in letters rows rest) (cells_in (part 2 rest)) text
