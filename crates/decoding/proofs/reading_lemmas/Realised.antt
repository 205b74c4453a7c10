-- Realising the modified syndromes of a checked code is never refused, and gives an error locator.
use Rattle.std.proofs.Common.{◌≡◌, ℕ, ◌<◌, true, List, length, is_ok, Ok, Err, Result, sym, refl, ap, subst, ⊎_elim, arith}
use Rattle.std.proofs.lemmas.List.{get_or_past}
use Rattle.std.proofs.lemmas.Bool.{cases_lt}
use Rattle.algebra.specs.Meaning.{Arithmetic, Meaning}
use Rattle.algebra.specs.Realisation.{Minimal}
use Rattle.algebra.specs.Limits.{coefficients}
use Rattle.codes.specs.Code.{Code}
use Rattle.codes.specs.Checked.{Checked}
use Rattle.minimal_pairs.specs.MinimalPair.{Lengths, OfElements, Realised, state_after}
use Rattle.codes.specs.declared.cell.Cell.{Cell}
use Rattle.minimal_pairs.specs.declared.minimal_pair.RealiseRefusal.{RealiseRefusal}
use Rattle.minimal_pairs.specs.declared.minimal_pair.RealiseRefusal.TheVariants.{WrongLength, NoElement}
use Rattle.minimal_pairs.proofs.PairInvariant.{minimal_after}
use Rattle.decoding.specs.reading.Decoding.{modified_syndromes, Locates}
use Rattle.decoding.proofs.reading_lemmas.ModifiedSyndromes.{length_modified, modified_elements}

-- the degree has a place among the coefficients
pub locates_short : (A : Arithmetic) (code : Code) (cells : List Cell) (d : ℕ) (f : List ℕ) → Locates A code cells d f → d < length f
locates_short A code cells d f (w, minimal) = ⊎_elim (λ within. within) (λ past. absurd (minimal.degree.leads (get_or_past f d 0 past))) (cases_lt d (length f))

module _ {m : Meaning} {code : Code} (checked : Checked m code) (cells : List Cell) where
  abbrev A : Arithmetic
  A = m.arithmetic

  abbrev T : List ℕ
  T = modified_syndromes A code cells

  pub minimal_pair : Minimal A T (state_after A T (length T)).degree (state_after A T (length T)).pair.f.coeffs (state_after A T (length T)).pair.w.coeffs
  minimal_pair =
      minimal_after checked.laws T (modified_elements A code cells checked.laws.total) (omega (arith, length_modified A code cells, checked.shape.sizes.most_rows))

  module _ (s f w f_after w_after : List ℕ) (is : s ≡ T) (f_places : length f ≡ coefficients) (w_places : length w ≡ coefficients) where
    lengths : Lengths s f w
    lengths = record {
      sequence_short = omega (arith, ap length is, length_modified A code cells, checked.shape.sizes.most_rows);
      f_places = f_places;
      w_places = w_places;
    }

    elements : OfElements A s
    elements = subst (OfElements A) (sym is) (modified_elements A code cells checked.laws.total)

    pub realised_ok : (r : Result ℕ RealiseRefusal) → Realised A s f w f_after w_after r → is_ok r ≡ true
    realised_ok (Ok d) realised = refl
    realised_ok (Err WrongLength) realised = absurd (realised.1 lengths)
    realised_ok (Err NoElement) realised = absurd (realised.2 elements)

    pub realised_locates : (d : ℕ) → Realised A s f w f_after w_after (Ok d) → Locates A code cells d f_after
    realised_locates d realised =
        let realised-T = subst (λ (s : List ℕ). Realised A s f w f_after w_after (Ok d)) is realised in
        let last = state_after A T (length T) in (
          w_after,
          subst (λ (d : ℕ). Minimal A T d f_after w_after) (sym realised-T.2)
              (subst (λ (f : List ℕ). Minimal A T last.degree f w_after) (sym realised-T.3)
              (subst (λ (w : List ℕ). Minimal A T last.degree last.pair.f.coeffs w) (sym realised-T.4) minimal_pair)),
        )
