-- Filling: the letters at the blank cells, from the sums over the noted ones.
use Rattle.std.specs.Prelude.{◌≡◌, ℕ, ◌<◌, ◌≤◌, List, map, length, is_some, Some, None, Ok, Err, Option, Result, slice_index, slice_index_or}
use Rattle.std.specs.Option.{unwrap_or}
use Rattle.std.specs.List.{range_with_len}
use Rattle.algebra.specs.Meaning.{Arithmetic, Meaning}
use Rattle.algebra.specs.Places.{failing}
use Rattle.algebra.specs.Polynomial.{negate, evaluate, annihilator, quotient_linear, act, divide}
use Rattle.algebra.specs.Theorems.{erased_letter}
use Rattle.codes.specs.Code.{Code}
use Rattle.codes.specs.Cells.{blank_cell, blanks}
use Rattle.codes.specs.Codeword.{Codeword, row_sum}
use Rattle.codes.specs.Sums.{Lengths, syndromes}
use Rattle.codes.specs.Standings.{Lettered}
use Rattle.codes.specs.declared.cell.Cell.{Cell}
use Rattle.decoding.specs.declared.filling.fill_refusal.FillRefusal.{FillRefusal}
use Rattle.decoding.specs.declared.filling.fill_refusal.FillRefusal.TheVariants.{WrongLength, TooBlank}

-- the k-th of a list of numbers; 0 past its end
abbrev pub number_at : List ℕ → ℕ → ℕ
number_at xs k = slice_index xs k

-- the places of the blank cells among the first n, the last first
abbrev pub blanks_below : List Cell → ℕ → List ℕ
blanks_below cells n = failing n (λ j. is_some (slice_index_or cells j blank_cell).letter)

abbrev pub blank_places : List Cell → List ℕ
blank_places cells = blanks_below cells (length cells)

-- the product of X − locator over the blank cells among the first n
unfoldable pub annihilator_below : Arithmetic → List ℕ → List Cell → ℕ → List ℕ
annihilator_below A locators cells n =
    annihilator A (map (number_at locators) (blanks_below cells n))

-- the letter at an erased place from the sums S and the annihilator p of the erased locators: −(Σ_k
-- P_k S_k) / (h P(a)), with a the place's locator, h its multiplier and P the quotient of p by X −
-- a
abbrev pub letter_from : Meaning → List ℕ → (ℕ → ℕ) → ℕ → ℕ → ℕ
letter_from m p S a h =
    divide m (negate m.arithmetic (act m.arithmetic (quotient_linear m.arithmetic a p) S 0))
    (m.arithmetic.times h (evaluate m.arithmetic (quotient_linear m.arithmetic a p) a))

-- the letter at place j: the noted one, or at a blank the one that the sums give
unfoldable pub filled_letter : Meaning → Code → List Cell → List ℕ → ℕ → ℕ
filled_letter m code cells sums j =
    unwrap_or (slice_index_or cells j blank_cell).letter
    (erased_letter m (number_at code.locators) (number_at code.multipliers) (blank_places cells)
    (number_at sums) j)

-- the letters at all places
unfoldable pub filled : Meaning → Code → List Cell → List ℕ → List ℕ
filled m code cells sums = map (filled_letter m code cells sums) (range_with_len 0 (length cells))

-- the cells, the multipliers and the letters are as many as the locators, and there is a sum for
-- each row
pub record FillLengths (code : Code) (cells : List Cell) (sums word : List ℕ) : Type 0 where
  pub lengths : Lengths code cells sums
  pub a_letter_each : length word ≡ length code.locators

abbrev pub fill_number : FillRefusal → ℕ
fill_number WrongLength = 25
fill_number TooBlank = 23

-- The first that applies, in this order: 25 for a wrong length, 23 where more cells are blank than
-- the code has rows.
abbrev pub FillRefused : Code → List Cell → List ℕ → List ℕ → FillRefusal → Type 0
FillRefused code cells sums word WrongLength =
    (fill_number WrongLength ≡ 25) × (FillLengths code cells sums word → ⊥)
FillRefused code cells sums word TooBlank =
    (fill_number TooBlank ≡ 23) × FillLengths code cells sums word × (code.rows < blanks cells)

-- The letters stand in the word, or a refusal is given in its case and the word is as it was.
abbrev pub Filling : Meaning → Code → List Cell → List ℕ → List ℕ → List ℕ
    → Result (Unit {0}) FillRefusal → Type 0
Filling m code cells sums before after (Ok done) =
    FillLengths code cells sums before × (blanks cells ≤ code.rows)
    × (after ≡ filled m code cells sums)
Filling m code cells sums before after (Err refusal) =
    FillRefused code cells sums before refusal × (after ≡ before)

-- a noted letter is x
abbrev pub IfNoted : ℕ → Option ℕ → Type 0
IfNoted x None = Unit {0}
IfNoted x (Some letter) = letter ≡ x

-- the word has the noted letters
abbrev pub Agrees : List Cell → List ℕ → Type 0
Agrees cells word =
    (j : ℕ) → j < length cells
    → IfNoted (slice_index word j) (slice_index_or cells j blank_cell).letter

-- with at most as many blanks as rows, a codeword that agrees with the noted cells has the filled
-- letters
abbrev pub FillsOnly : Meaning → Code → Type 0
FillsOnly m code =
    (cells : List Cell) → length cells ≡ length code.locators → blanks cells ≤ code.rows
    → (word : List ℕ) → Codeword m.arithmetic code word → Agrees cells word
    → word ≡ filled m code cells (syndromes m.arithmetic code cells)

-- with as many blanks as rows and noted letters that are elements, all sums of the filled word are
-- 0
abbrev pub FillsToZero : Meaning → Code → Type 0
FillsToZero m code =
    (cells : List Cell) → length cells ≡ length code.locators → blanks cells ≡ code.rows
    → Lettered m.arithmetic.size cells → (k : ℕ) → k < code.rows
    → row_sum m.arithmetic code (filled m code cells (syndromes m.arithmetic code cells)) k ≡ 0

-- the two laws of filling, over a checked code
pub record FillingLaws (m : Meaning) (code : Code) : Type 0 where
  pub only : FillsOnly m code
  pub zeros : FillsToZero m code
