-- The bytes of what an inked tag reads as.
use Rattle.std.specs.Prelude.{ℕ, List, ◌++◌, codes, decimal}
use Rattle.codes.specs.WordText.{word_text}
use Rattle.decoding.specs.reading.Reading.{read_number}
use Rattle.decoding.specs.declared.reading.read_answer.ReadRefusal.{ReadRefusal}
use Rattle.decoding.specs.declared.reading.read_answer.ReadRefusal.TheVariants.{WrongLength, TooBlank, Lost}
use Rattle.demo.specs.inked.Texts.{line_word}
use Rattle.demo.specs.MarkTexts.{marks_text}
use Rattle.demo.specs.declared.found.TagRead.{TagRead}
use Rattle.demo.specs.declared.found.Unread.{Unread}
use Rattle.demo.specs.declared.found.Unread.TheVariants.{Line, Read}

-- how many cells are corrected and how many filled, and a line each for the letters and their marks
abbrev pub tag_text : TagRead → List ℕ
tag_text r =
    (codes "  corrected: " ++ (decimal r.counts.wrong
    ++ (codes ", filled: " ++ (decimal r.counts.blank ++ codes "\n"))))
    ++ (codes "  letters:" ++ (word_text r.word ++ (codes "\n  marks: " ++ marks_text r.word)))

abbrev pub read_kind : ReadRefusal → List ℕ
read_kind WrongLength = codes " wrong length"
read_kind TooBlank = codes " too blank"
read_kind Lost = codes " lost"

-- the number and the word of a read's refusal
abbrev pub read_word : ReadRefusal → List ℕ
read_word refusal = decimal (read_number refusal) ++ read_kind refusal

abbrev pub unread_text : Unread → List ℕ
unread_text (Line refusal) = codes "  the line is not noted: " ++ line_word refusal
unread_text (Read refusal) = codes "  it does not read: " ++ read_word refusal
