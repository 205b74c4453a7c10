-- No polynomial of a state has coefficients above the degree.
use Rattle.std.proofs.Common.{ℕ, zero, suc, ◌+◌, eqb, List, pos, arith}
use lib.Signed.{lt_z}
use Rattle.std.proofs.lemmas.Bool.{cond_both}
use Rattle.algebra.specs.Meaning.{Arithmetic}
use Rattle.minimal_pairs.specs.Poly.{UpTo}
use Rattle.minimal_pairs.specs.declared.poly.Poly.{Poly}
use Rattle.minimal_pairs.specs.declared.minimal_pair.State.{State}
use Rattle.minimal_pairs.specs.MinimalPair.{state_after, advanced, passed, updated, changed, discrepancy, Bounded}
use Rattle.minimal_pairs.proofs.PolyFacts.{coeff_above}

raised : (p : Poly) (m n : ℕ) → UpTo m p → UpTo (m + n) p
raised p m n h j above = h j (omega (arith, above))

module _ (A : Arithmetic) where
  pub bounded_changed : (D : ℕ) (st : State) → Bounded st → Bounded (changed D st)
  bounded_changed D st h = record {
    f_up_to = raised _ _ _ h.kept_f_up_to;
    w_up_to = raised _ _ _ h.kept_w_up_to;
    kept_f_up_to = raised _ _ _ h.f_up_to;
    kept_w_up_to = raised _ _ _ h.w_up_to;
  }

  bounded_updated : (D : ℕ) (st : State) → UpTo st.degree st.kept.f → UpTo st.degree st.kept.w → Bounded (updated A D st)
  bounded_updated D st f w = record { f_up_to = coeff_above _ _; w_up_to = coeff_above _ _; kept_f_up_to = f; kept_w_up_to = w }

  bounded_advanced : (D : ℕ) (st : State) → Bounded st → Bounded (advanced A D st)
  bounded_advanced D st h =
      cond_both (eqb D 0) (passed st) _ Bounded (λ _. record { f_up_to = h.f_up_to; w_up_to = h.w_up_to; kept_f_up_to = h.kept_f_up_to; kept_w_up_to = h.kept_w_up_to })
      (λ _. cond_both (lt_z st.d (pos 0)) (updated A st.kept_discrepancy (changed D st)) (updated A D st) Bounded
      (λ _. let b = bounded_changed D st h in bounded_updated st.kept_discrepancy (changed D st) b.kept_f_up_to b.kept_w_up_to)
      (λ _. bounded_updated D st h.kept_f_up_to h.kept_w_up_to))

  pub bounded : (s : List ℕ) (i : ℕ) → Bounded (state_after A s i)
  unfolding state_after
  bounded s zero = record { f_up_to = coeff_above _ _; w_up_to = coeff_above _ _; kept_f_up_to = coeff_above _ _; kept_w_up_to = coeff_above _ _ }
  bounded s (suc i) = bounded_advanced (discrepancy A s i (state_after A s i)) (state_after A s i) (bounded s i)
