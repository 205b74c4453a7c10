-- How degree, d and the numbers read hang together in every state of the algorithm.
use Rattle.std.proofs.Common.{◌≡◌, ℕ, zero, suc, ◌+◌, ◌*◌, true, false, eqb, List, ℤ, pos, negsuc, ◌+ℤ◌, ◌-ℤ◌, neg_ℤ, nat_abs, refl, arith}
use lib.Signed.{lt_z}
use Rattle.std.proofs.lemmas.Int.{ints}
use Rattle.std.proofs.lemmas.Bool.{cond_both, both_ways, ltb-true}
use Rattle.algebra.specs.Meaning.{Arithmetic}
use Rattle.minimal_pairs.specs.declared.minimal_pair.State.{State}
use Rattle.minimal_pairs.specs.MinimalPair.{state_after, advanced, passed, updated, changed, discrepancy, Counted}

lt_zero : (n : ℕ) → lt_z (pos n) (pos 0) ≡ true → ⊥
lt_zero n e = omega (arith, ltb-true n 0 e)

-- one more number read, and d one less
falls : (i m : ℕ) (d : ℤ) → d +ℤ pos (i + 1) ≡ pos (2 * m) → (d -ℤ pos 1) +ℤ pos (suc i + 1) ≡ pos (2 * m)
falls i m d e = omega (arith, ints)

-- d as a distance, where it is not negative,
pub ahead : (i m : ℕ) (d : ℤ) → d +ℤ pos (i + 1) ≡ pos (2 * m) → lt_z d (pos 0) ≡ false → nat_abs d + suc i ≡ m + m
ahead i m (pos n) e positive = omega (arith, ints)
ahead i m (negsuc n) e positive = absurd (both_ways true positive refl)

-- and negated, where it is: by this the degree grows
pub behind_by : (i m : ℕ) (d : ℤ) → d +ℤ pos (i + 1) ≡ pos (2 * m) → lt_z d (pos 0) ≡ true → nat_abs (neg_ℤ d) + (m + m) ≡ suc i
behind_by i m (pos n) e negative = absurd (lt_zero n negative)
behind_by i m (negsuc n) e negative = omega (arith, ints)

changed_d : (i m : ℕ) (d : ℤ) → d +ℤ pos (i + 1) ≡ pos (2 * m) → lt_z d (pos 0) ≡ true → neg_ℤ d +ℤ pos (i + 1) ≡ pos (2 * (m + nat_abs (neg_ℤ d)))
changed_d i m (pos n) e negative = absurd (lt_zero n negative)
changed_d i m (negsuc n) e negative = omega (arith, ints)

module _ (A : Arithmetic) (s : List ℕ) where
  pub counted_advanced : (D i : ℕ) (st : State) → Counted i st → Counted (suc i) (advanced A D st)
  counted_advanced D i st h =
      cond_both (eqb D 0) (passed st) _ (Counted (suc i)) (λ _. kept)
      (λ _. cond_both (lt_z st.d (pos 0)) (updated A st.kept_discrepancy (changed D st)) (updated A D st) (Counted (suc i))
      (λ negative. record { read = omega (arith, behind_by i st.degree st.d h.d_is negative); d_is = falls i _ (neg_ℤ st.d) (changed_d i st.degree st.d h.d_is negative) })
      (λ _. record { read = kept.read; d_is = kept.d_is }))
    where
      kept : Counted (suc i) (passed st)
      kept = record { read = omega (arith, h.read); d_is = falls i st.degree st.d h.d_is }

  pub counted : (i : ℕ) → Counted i (state_after A s i)
  unfolding state_after
  counted zero = record { read = omega arith; d_is = refl }
  counted (suc i) = counted_advanced (discrepancy A s i (state_after A s i)) i (state_after A s i) (counted i)
