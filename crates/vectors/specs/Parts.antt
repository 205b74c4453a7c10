-- What the text of a case says.
use Rattle.std.specs.Prelude.{ℕ, zero, suc, ◌==◌, Bool, List, length, map, filter, nat_lt, codes, cond}
use Rattle.std.specs.List.{before_first, after_first, slice_split}
use Rattle.codes.specs.Code.{Code}
use Rattle.codes.specs.Cells.{blank_cell, noted_cell}
use Rattle.codes.specs.declared.cell.Cell.{Cell}
use Rattle.std.specs.Str.{bytes_eq}
use Rattle.std.specs.Str.Parse.{digits_value, without_leading_plus}

abbrev pub semicolon : ℕ → Bool
semicolon b = b == 59

abbrev pub space : ℕ → Bool
space b = b == 32

-- the part of a text at place i, between semicolons; empty where there are fewer
unfoldable pub part : ℕ → List ℕ → List ℕ
part zero text = before_first semicolon text
part (suc i) text = part i (after_first semicolon text)

-- the words of a text, between spaces
abbrev pub words : List ℕ → List (List ℕ)
words text = filter (λ word. nat_lt 0 (length word)) (slice_split (λ b. b == 32) text)

-- the number that a word is in decimal
abbrev pub number_of : List ℕ → ℕ
number_of word = digits_value 10 (without_leading_plus word)

-- the numbers of the words
abbrev pub numbers_in : List ℕ → List ℕ
numbers_in text = map number_of (words text)

-- a blank for '?', and else the letter that the word is
abbrev pub cell_of : List ℕ → Cell
cell_of word = cond (bytes_eq word (codes "?")) blank_cell (noted_cell (number_of word))

-- the cells of the words
abbrev pub cells_in : List ℕ → List Cell
cells_in text = map cell_of (words text)

-- the code of a text of locators; multipliers; what follows
abbrev pub code_in : ℕ → ℕ → List ℕ → Code
code_in letters rows text =
    record {
      letters = letters;
      rows = rows;
      locators = numbers_in (part 0 text);
      multipliers = numbers_in (part 1 text);
    }
