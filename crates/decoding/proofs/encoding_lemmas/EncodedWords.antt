-- The encoding is the only codeword that begins with the data.
use Rattle.std.proofs.Common.{◌≡◌, ℕ, ◌+◌, ◌<◌, ◌≤◌, List, length, get_or, Some, None, Ok, Option, unwrap_or, sym, refl, ap, ◌∙◌, subst, le_trans, zero-add, arith}
use Rattle.std.proofs.lemmas.List.{get_or-take}
use Rattle.std.proofs.lemmas.List.FromFn.{fill_by_all, take-map-range_with_len, get_or-map-range_with_len, length-map-range_with_len}
use Rattle.algebra.specs.Meaning.{Meaning}
use Rattle.codes.specs.Code.{Code}
use Rattle.codes.specs.Checked.{Checked}
use Rattle.codes.specs.Cells.{blank_cell}
use Rattle.codes.specs.Sums.{syndromes}
use Rattle.codes.specs.Standings.{BelowIfNoted, Lettered}
use Rattle.decoding.specs.filling.Fillings.{filled_letter, filled, IfNoted, Agrees}
use Rattle.fields.specs.Elements.{AllBelow}
use Rattle.decoding.specs.encoding.Encodings.{data_cells, encoding, EncodeLengths, Begins, Encodes, Encoded}
use Rattle.codes.specs.declared.cell.Cell.{Cell}
use Rattle.decoding.proofs.filling_lemmas.FilledWords.{fills_only, fills_to_zero}
use Rattle.decoding.proofs.encoding_lemmas.DataCells.{length_data_cells, blanks_data_cells, data_noted, each_data_cell}

value_below : (o : Option ℕ) (x size : ℕ) → BelowIfNoted size o → x < size → unwrap_or o x < size
value_below None x size below h = h
value_below (Some letter) x size below h = below

value_noted : (o : Option ℕ) (letter x : ℕ) → o ≡ Some letter → unwrap_or o x ≡ letter
value_noted o letter x e = ap (λ (p : Option ℕ). unwrap_or p x) e

module _ {m : Meaning} {code : Code} (checked : Checked m code) (letters : List ℕ)
    (long : length letters + code.rows ≡ length code.locators) where
  abbrev cells : List Cell
  cells = data_cells code letters

  abbrev filled_at : ℕ → ℕ
  filled_at = filled_letter m code cells (syndromes m.arithmetic code cells)

  cells_long : length cells ≡ length code.locators
  cells_long = length_data_cells code letters ∙ long

  get_or_encoding : (j : ℕ) → j < length cells → get_or (encoding m code letters) j 0 ≡ filled_at j
  unfolding encoding filled
  get_or_encoding j h = get_or-map-range_with_len filled_at 0 (length cells) j j 0 h (zero-add j)

  length_encoding : length (encoding m code letters) ≡ length cells
  unfolding encoding filled
  length_encoding = length-map-range_with_len filled_at 0 (length cells)

  lettered : (size : ℕ) → AllBelow size letters → Lettered size cells
  lettered size below j h = each_data_cell code letters (λ j o. BelowIfNoted size o) below (λ j. tt) j

  -- a filled letter is a noted one or an element
  filled_below : m.arithmetic.size ≤ code.letters → AllBelow code.letters letters →
      (j : ℕ) → j < length cells → filled_at j < code.letters
  unfolding filled_letter
  filled_below whole below j h =
      value_below (get_or cells j blank_cell).letter _ code.letters (lettered code.letters below j h)
      (le_trans (checked.laws.total.times_element _ _) whole)

  begins : Begins letters (encoding m code letters)
  unfolding encoding filled filled_letter
  begins =
      take-map-range_with_len filled_at 0 (length cells) (length letters) (omega (arith, length_data_cells code letters))
      ∙ sym (fill_by_all filled_at letters (length letters) 0 refl
      (λ j h. sym (value_noted (get_or cells j blank_cell).letter (get_or letters j 0) _ (data_noted code letters j h))))

  agrees : (word : List ℕ) → Begins letters word → Agrees cells word
  agrees word same j h =
      each_data_cell code letters (λ j o. IfNoted (get_or word j 0) o)
      (λ j below. ap (λ (l : List ℕ). get_or l j 0) (sym same) ∙ get_or-take (length letters) word j 0 below) (λ j. tt) j

  pub encodes : m.arithmetic.size ≤ code.letters → AllBelow code.letters letters → Encodes m code letters (encoding m code letters)
  unfolding encoding
  encodes whole below = record {
    codeword = record {
      long = length_encoding ∙ cells_long;
      lettered = λ j h.
          let within : j < length cells = omega (arith, length_encoding) in
          subst (λ x. x < code.letters) (sym (get_or_encoding j within)) (filled_below whole below j within);
      zeros = fills_to_zero m code checked cells cells_long (blanks_data_cells code letters)
          (lettered m.arithmetic.size (λ j h. omega (arith, below j h, checked.alphabet.elements)));
    };
    begins = begins;
    only = λ other codeword same.
        fills_only m code checked cells cells_long (omega (arith, blanks_data_cells code letters)) other codeword (agrees other same);
  }

-- what encoding answers where no refusal is due
pub encoded : {m : Meaning} {code : Code} → Checked m code → (letters before after : List ℕ) → m.arithmetic.size ≤ code.letters →
    EncodeLengths code letters before → AllBelow code.letters letters → after ≡ encoding m code letters →
    Encoded m code letters before after (Ok tt)
encoded {m} {code} checked letters before after whole lengths below is =
    (whole, lengths, below, is, subst (Encodes m code letters) (sym is) (encodes checked letters lengths.data_each whole below))
