-- Every state of the algorithm for minimal pairs, over a lawful field: its pair fits what was read, and its kept pair
-- shows that nothing of lower degree does.
use Rattle.std.proofs.Common.{◌≡◌, ◌≢◌, ℕ, zero, suc, ◌+◌, ◌<◌, ◌≤◌, true, false, eqb, List, length, pos, neg_ℤ, nat_abs, refl, arith}
use lib.Signed.{lt_z}
use Rattle.std.proofs.lemmas.Bool.{cond_both, eqb-true, eqb-false}
use Rattle.algebra.specs.Limits.{longest_sequence, coefficients}
use Rattle.algebra.specs.Meaning.{Arithmetic, Meaning}
use Rattle.algebra.specs.Laws.{Laws}
use Rattle.algebra.specs.Polynomial.{AllElements}
use Rattle.algebra.specs.Realisation.{Minimal}
use Rattle.algebra.specs.PairSteps.{Fitting, Kept, Combined}
use Rattle.algebra.proofs.Coefficients.{all_elements}
use Rattle.algebra.proofs.PairSteps.{starts_fitting, starts_kept, passes, keeps, stays, grows, minimal}
use Rattle.minimal_pairs.specs.Poly.{coeff, constant, combined}
use Rattle.minimal_pairs.specs.MinimalPair.{start, state_after, stepped, passed, changed, updated, discrepancy, Counted, OfElements}
use Rattle.minimal_pairs.specs.declared.poly.Poly.{Poly}
use Rattle.minimal_pairs.specs.declared.minimal_pair.State.{State}
use Rattle.minimal_pairs.proofs.PolyFacts.{coeff_up_to, coeff_above}
use Rattle.minimal_pairs.proofs.Counting.{ahead, behind_by, counted}

abbrev pub MinimalState : Arithmetic → List ℕ → State → Type 0
MinimalState A s st = Minimal A s st.degree st.pair.f.coeffs st.pair.w.coeffs

combined_is : (A : Arithmetic) (a : ℕ) (p : Poly) (b d : ℕ) (q : Poly) (m : ℕ) → m < coefficients → Combined A a p.coeffs b d q.coeffs m (combined A a p b d q m).coeffs
combined_is A a p b d q m small = record { same = λ j h. coeff_up_to m _ j small h; above = λ j h. coeff_above m _ j h }

constant_is : (x : ℕ) → coeff (constant x) 0 ≡ x
constant_is x = coeff_up_to 0 _ 0 (omega arith) (omega arith)

above_constant : (x j : ℕ) → 0 < j → coeff (constant x) j ≡ 0
above_constant x j h = coeff_above 0 _ j h

zeros : (j : ℕ) → coeff (constant 0) j ≡ 0
zeros zero = constant_is 0
zeros (suc j) = above_constant 0 (suc j) (omega arith)

module _ {meaning : Meaning} (laws : Laws meaning) (s : List ℕ) (s-in : AllElements meaning.arithmetic s) where
  abbrev A : Arithmetic
  A = meaning.arithmetic

  -- what holds of the state after i numbers
  record Holds (i : ℕ) (st : State) : Type 0 where
    fitting : Fitting A s i st.degree st.pair.f.coeffs st.pair.w.coeffs
    kept_degree : ℕ
    kept : Kept A s st.degree kept_degree st.kept.f.coeffs st.kept.w.coeffs st.kept_discrepancy
    behind : st.degree + kept_degree ≤ i

  holds_start : Holds 0 (start A)
  holds_start = record {
    fitting = starts_fitting laws s s-in _ _ (constant_is 1) (above_constant 1) zeros;
    kept_degree = 0;
    kept = starts_kept laws s s-in _ _ zeros (constant_is _) (above_constant _);
    behind = omega arith;
  }

  -- a step, by the discrepancy D
  module _ (i : ℕ) (st : State) (short : i < longest_sequence) (count : Counted i st) (h : Holds i st) where
    abbrev D : ℕ
    D = discrepancy A s i st

    holds_passed : D ≡ 0 → Holds (suc i) (passed st)
    holds_passed e = record {
      fitting = passes laws s s-in i st.degree _ _ D h.fitting count.read refl e;
      kept_degree = h.kept_degree;
      kept = h.kept;
      behind = omega (arith, h.behind);
    }

    holds_updated : lt_z st.d (pos 0) ≡ false → Holds (suc i) (updated A D st)
    holds_updated positive =
        let small : st.degree < coefficients = omega (arith, count.read) in
        record {
          fitting =
              stays laws s s-in i st.degree _ _ D h.fitting count.read refl h.kept_degree (nat_abs st.d) _ _ st.kept_discrepancy _ _ h.kept h.behind
              (ahead i st.degree st.d count.d_is positive)
              (combined_is A _ st.pair.f _ _ st.kept.f _ small) (combined_is A _ st.pair.w _ _ st.kept.w _ small);
          kept_degree = h.kept_degree;
          kept = h.kept;
          behind = omega (arith, h.behind);
        }

    holds_changed : D ≢ 0 → lt_z st.d (pos 0) ≡ true → Holds (suc i) (updated A st.kept_discrepancy (changed D st))
    holds_changed nonzero negative =
        let growth = nat_abs (neg_ℤ st.d) in
        let grown = behind_by i st.degree st.d count.d_is negative in
        let small : st.degree + growth < coefficients = omega arith in
        record {
          fitting =
              grows laws s s-in i st.degree _ _ D h.fitting count.read refl h.kept_degree growth _ _ st.kept_discrepancy _ _ h.kept h.behind grown
              (combined_is A _ st.kept.f _ _ st.pair.f _ small) (combined_is A _ st.kept.w _ _ st.pair.w _ small);
          kept_degree = st.degree;
          kept = keeps laws s s-in i st.degree _ _ D h.fitting count.read refl growth nonzero grown;
          behind = omega arith;
        }

    holds_stepped : Holds (suc i) (stepped A s i st)
    holds_stepped =
        cond_both (eqb D 0) (passed st) _ (Holds (suc i)) (λ e. holds_passed (eqb-true D 0 e))
        (λ ne. cond_both (lt_z st.d (pos 0)) _ (updated A D st) (Holds (suc i)) (holds_changed (eqb-false D 0 ne)) holds_updated)

  holds : (i : ℕ) → i ≤ longest_sequence → Holds i (state_after A s i)
  unfolding state_after
  holds zero h = holds_start
  holds (suc i) h = holds_stepped i (state_after A s i) (omega arith) (counted A s i) (holds i (omega arith))

-- the pair after the whole sequence is minimal
pub minimal_after : {meaning : Meaning} → Laws meaning → (s : List ℕ) → OfElements meaning.arithmetic s → length s ≤ longest_sequence →
    MinimalState meaning.arithmetic s (state_after meaning.arithmetic s (length s))
minimal_after laws s elements short =
    let s-in = all_elements laws.total s elements in
    let h = holds laws s s-in (length s) short in
    minimal laws s s-in _ h.kept_degree _ _ _ _ _ h.fitting h.kept h.behind
