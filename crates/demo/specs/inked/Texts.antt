-- The bytes of an inspection and of refused lines.
use Rattle.std.specs.Prelude.{ℕ, ◌+◌, List, ◌++◌, codes, decimal}
use Rattle.codes.specs.WordText.{word_text, cells_text}
use Rattle.codes.specs.declared.standing.Standing.{Standing}
use Rattle.codes.specs.declared.standing.Standing.TheVariants.{Codeword, Unfinished, Damaged}
use Rattle.tags.specs.marks.Lines.{line_number}
use Rattle.tags.specs.declared.marks.line.LineRefusal.{LineRefusal}
use Rattle.tags.specs.declared.marks.line.LineRefusal.TheVariants.{WrongLength, UnmarkedAlphabet, BadMark}
use Rattle.demo.specs.inked.InkedTag.{inked_data}
use Rattle.demo.specs.declared.inked.inspect.Inspection.{Inspection}
use Rattle.demo.specs.declared.inked.monday.DataRefusal.{DataRefusal}
use Rattle.demo.specs.declared.inked.monday.DataRefusal.TheVariants.{Line, Blank}
use Rattle.demo.specs.declared.inked.refused.RefusedLine.{RefusedLine}
use Rattle.demo.specs.declared.inked.refused.RefusedData.{RefusedData}

abbrev pub standing_text : Standing → List ℕ
standing_text Codeword = codes "a codeword"
standing_text (Unfinished blanks) = codes "unfinished, blank cells: " ++ decimal blanks
standing_text Damaged = codes "damaged"

-- the lines of the cells and of the sums
abbrev pub cells_and_sums : Inspection → List ℕ
cells_and_sums i =
    codes "  cells:" ++ (cells_text i.cells
    ++ (codes "\n  sums:" ++ (word_text i.sums ++ codes "\n")))

-- and a line of the standing
abbrev pub inspection_text : Inspection → List ℕ
inspection_text i = cells_and_sums i ++ (codes "  " ++ standing_text i.standing)

abbrev pub line_kind : LineRefusal → List ℕ
line_kind WrongLength = codes " wrong length"
line_kind UnmarkedAlphabet = codes " bad mark"
line_kind (BadMark place) = codes " bad mark"

-- the number and the word of a line's refusal
abbrev pub line_word : LineRefusal → List ℕ
line_word refusal = decimal (line_number refusal) ++ line_kind refusal

-- what a cell is called whose place counts from 0: one more
abbrev pub cell_name : ℕ → List ℕ
cell_name place = decimal (place + 1)

-- what is wrong with a line of so many marks, where so many are wanted
abbrev pub line_fault : ℕ → ℕ → LineRefusal → List ℕ
line_fault wanted marks WrongLength =
    decimal wanted ++ (codes " marks are wanted, and there are " ++ decimal marks)
line_fault wanted marks UnmarkedAlphabet = codes "the alphabet has letters without a mark"
line_fault wanted marks (BadMark place) =
    codes "mark " ++ (cell_name place ++ codes " is no letter and no '?'")

abbrev pub refused_line_text : RefusedLine → List ℕ
refused_line_text l = (line_word l.refusal ++ codes ": ") ++ line_fault l.wanted l.marks l.refusal

-- data are refused as a line of as many marks as there are data letters, or for a blank
abbrev pub data_text : ℕ → DataRefusal → List ℕ
data_text marks (Line refusal) =
    refused_line_text (record { refusal = refusal; wanted = inked_data; marks = marks })
data_text marks (Blank place) = codes "data letter " ++ (cell_name place ++ codes " is blank")

abbrev pub refused_data_text : RefusedData → List ℕ
refused_data_text d = data_text d.marks d.refusal
