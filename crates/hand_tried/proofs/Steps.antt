-- The cases of sums, minimal pairs and encoding.
use Rattle.std.proofs.Common.{◌≡◌, ℕ, zero, suc, ◌≤◌, List, [], ◌∷◌, length, replicate, Ok, Err, Result, sym, refl, ap, ◌∙◌, ap₂, arith, lit≤}
use Rattle.algebra.specs.Limits.{coefficients, longest_sequence}
use Rattle.algebra.specs.Meaning.{Arithmetic}
use Rattle.fields.specs.Modulo.{modulo}
use Rattle.codes.specs.Code.{Code}
use Rattle.codes.specs.Cells.{noted}
use Rattle.codes.specs.Sums as summing
use Rattle.codes.specs.Sums.{sum_to, syndromes, Summed}
use Rattle.codes.specs.declared.cell.Cell.{Cell}
use Rattle.codes.specs.declared.syndromes.SumsRefusal.{SumsRefusal}
use Rattle.minimal_pairs.specs.Poly.{up_to}
use Rattle.minimal_pairs.specs.MinimalPair.{Lengths, OfElements, Realised, state_after}
use Rattle.minimal_pairs.specs.WorkedPairs.{HasPair}
use Rattle.minimal_pairs.specs.declared.minimal_pair.RealiseRefusal.{RealiseRefusal}
use Rattle.minimal_pairs.specs.declared.minimal_pair.RealiseRefusal.TheVariants as realise
use Rattle.fields.specs.Elements.{AllBelow}
use Rattle.decoding.specs.encoding.Encodings.{EncodeLengths, Encoded}
use Rattle.decoding.specs.encoding.CodeExamples.{modulo_seven, small_code}
use Rattle.decoding.specs.declared.encoding.encode_refusal.EncodeRefusal.{EncodeRefusal}
use Rattle.decoding.specs.declared.encoding.encode_refusal.EncodeRefusal.TheVariants as encode
use Rattle.decoding.proofs.encoding_lemmas.EncodedWords
use Rattle.decoding.proofs.encoding_lemmas.CodeExamples.{encoding_example}
use Rattle.hand_tried.specs.Outcomes.{Places, SumsTo, EncodesTo, RealisesTo}
use Rattle.hand_tried.proofs.Cards.{small_checked}

module _ (A : Arithmetic) (code : Code) (cells : List Cell) (sums : List ℕ) (lengths : (before : List ℕ) → Places code.rows before → summing.Lengths code cells before) (is : syndromes A code cells ≡ sums) where
  only_sums : (before : List ℕ) → Places code.rows before → (after : List ℕ) (r : Result (Unit {0}) SumsRefusal) → Summed A code cells before after r → (after ≡ sums) × (r ≡ Ok tt)
  only_sums before room after (Ok done) s = (s.1 ∙ is, refl)
  only_sums before room after (Err refusal) s = absurd (s.1 (lengths before room))

  sums_to : SumsTo A code cells sums
  sums_to = record { this = λ before room. (lengths before room, sym is); only = only_sums }

pub wrong_sums : SumsTo (modulo 7) small_code (noted (1 ∷ 5 ∷ 3 ∷ 4 ∷ 0 ∷ 6 ∷ [])) (5 ∷ 4 ∷ 0 ∷ 5 ∷ [])
unfolding sum_to syndromes
wrong_sums = sums_to (modulo 7) small_code _ _ (λ before room. record { a_multiplier_each = refl; a_cell_each = refl; a_place_each = room }) refl

module _ (A : Arithmetic) (s : List ℕ) (d : ℕ) (f w : List ℕ) (short : length s ≤ longest_sequence) (elements : OfElements A s) (pair : HasPair A s d f w) where
  abbrev Room : List ℕ × List ℕ → Type 0
  Room before = Places coefficients before.0 × Places coefficients before.1

  lengths : (before : List ℕ × List ℕ) → Room before → Lengths s before.0 before.1
  lengths before room = record { sequence_short = short; f_places = room.0; w_places = room.1 }

  only_pair : (before : List ℕ × List ℕ) → Room before → (after : List ℕ × List ℕ) (r : Result ℕ RealiseRefusal) →
      Realised A s before.0 before.1 after.0 after.1 r → (after ≡ (f, w)) × (r ≡ Ok d)
  only_pair before room after (Ok degree) is = (ap₂ (λ (f w : List ℕ). (f, w)) (is.3 ∙ pair.1) (is.4 ∙ pair.2), ap Ok (is.2 ∙ pair.0))
  only_pair before room after (Err realise.WrongLength) is = absurd (is.1 (lengths before room))
  only_pair before room after (Err realise.NoElement) is = absurd (is.2 elements)

  realises_to : RealisesTo A s d f w
  realises_to = record { this = λ before room. (lengths before room, elements, sym pair.0, sym pair.1, sym pair.2); only = only_pair }

four_elements : OfElements (modulo 7) (5 ∷ 4 ∷ 0 ∷ 5 ∷ [])
four_elements zero h = lit≤ tt
four_elements (suc zero) h = lit≤ tt
four_elements (suc (suc zero)) h = lit≤ tt
four_elements (suc (suc (suc zero))) h = lit≤ tt
four_elements (suc (suc (suc (suc i)))) h = absurd (omega arith)

pub wrong_pair : RealisesTo (modulo 7) (5 ∷ 4 ∷ 0 ∷ 5 ∷ []) 2 (2 ∷ 1 ∷ 4 ∷ replicate 62 0) (0 ∷ 6 ∷ replicate 63 0)
unfolding state_after up_to
wrong_pair = realises_to (modulo 7) _ _ _ _ (lit≤ tt) four_elements (refl, refl, refl)

pub empty_pair : (A : Arithmetic) → RealisesTo A [] 0 (1 ∷ replicate 64 0) (replicate 65 0)
unfolding state_after up_to
empty_pair A = realises_to A [] _ _ _ (lit≤ tt) (λ i h. absurd (omega arith)) (refl, refl, refl)

data_below : AllBelow 7 (0 ∷ 2 ∷ [])
data_below zero h = lit≤ tt
data_below (suc zero) h = lit≤ tt
data_below (suc (suc j)) h = absurd (omega arith)

abbrev encoded_word : List ℕ
encoded_word = 0 ∷ 2 ∷ 6 ∷ 5 ∷ 6 ∷ 2 ∷ []

data_lengths : (before : List ℕ) → Places 6 before → EncodeLengths small_code (0 ∷ 2 ∷ []) before
data_lengths before room = record { data_each = refl; a_place_each = room }

only_encoded : (before : List ℕ) → Places 6 before → (after : List ℕ) (r : Result (Unit {0}) EncodeRefusal) → Encoded modulo_seven small_code (0 ∷ 2 ∷ []) before after r → (after ≡ encoded_word) × (r ≡ Ok tt)
only_encoded before room after (Ok done) is = (is.3 ∙ encoding_example, refl)
only_encoded before room after (Err encode.PartAlphabet) is = absurd (let part = is.0.1 in omega arith)
only_encoded before room after (Err encode.WrongLength) is = absurd (is.0.2 (data_lengths before room))
only_encoded before room after (Err encode.NoLetter) is = absurd (is.0.3 data_below)

pub encoded : EncodesTo modulo_seven small_code (0 ∷ 2 ∷ []) encoded_word
encoded = record {
  this = λ before room. EncodedWords.encoded small_checked (0 ∷ 2 ∷ []) before encoded_word (lit≤ tt) (data_lengths before room) data_below (sym encoding_example);
  only = only_encoded;
}
