-- Cells without a blank are a codeword exactly when their letters are below the alphabet size and their sums are 0.
use Rattle.std.proofs.Common.{◌≡◌, ℕ, ◌<◌, List, length, get_or, sym, ◌∙◌, subst, zero-add, arith}
use Rattle.std.proofs.lemmas.List.FromFn.{get_or-map-range_with_len, length-map-range_with_len}
use Rattle.algebra.specs.Meaning.{Arithmetic}
use Rattle.codes.specs.Code.{Code}
use Rattle.codes.specs.Sums.{syndrome, syndromes}
use Rattle.codes.specs.Cells.{noted}
use Rattle.codes.specs.Codeword.{Codeword}
use Rattle.codes.specs.Standings.{Lettered, AllZero, BelowIfNoted}
use Rattle.codes.specs.declared.cell.Cell.{Cell}
use Rattle.codes.proofs.Words.{length_noted, get_or_noted, syndrome_noted}

pub get_or_syndromes : (A : Arithmetic) (code : Code) (cells : List Cell) (k : ℕ) → k < code.rows → get_or (syndromes A code cells) k 0 ≡ syndrome A code cells k
unfolding syndromes
get_or_syndromes A code cells k h = get_or-map-range_with_len (syndrome A code cells) 0 code.rows k k 0 h (zero-add k)

pub length_syndromes : (A : Arithmetic) (code : Code) (cells : List Cell) → length (syndromes A code cells) ≡ code.rows
unfolding syndromes
length_syndromes A code cells = length-map-range_with_len (syndrome A code cells) 0 code.rows

module _ (A : Arithmetic) (code : Code) (word : List ℕ) where
  pub codeword_from_noted : length (noted word) ≡ length code.locators → Lettered code.letters (noted word) → AllZero (syndromes A code (noted word)) → Codeword A code word
  codeword_from_noted long lettered zeros = record {
    long = sym (length_noted word) ∙ long;
    lettered = λ j h. subst (BelowIfNoted code.letters) (get_or_noted word j h) (lettered j (omega (arith, length_noted word)));
    zeros = λ k h. sym (syndrome_noted A code word k) ∙ sym (get_or_syndromes A code (noted word) k h) ∙ zeros k (omega (arith, length_syndromes A code (noted word)));
  }

  pub noted_lettered : Codeword A code word → Lettered code.letters (noted word)
  noted_lettered c j h = let within : j < length word = omega (arith, length_noted word) in subst (BelowIfNoted code.letters) (sym (get_or_noted word j within)) (c.lettered j within)

  pub noted_zeros : Codeword A code word → AllZero (syndromes A code (noted word))
  noted_zeros c k h =
      let within : k < code.rows = omega (arith, length_syndromes A code (noted word)) in
      get_or_syndromes A code (noted word) k within ∙ syndrome_noted A code word k ∙ c.zeros k within
