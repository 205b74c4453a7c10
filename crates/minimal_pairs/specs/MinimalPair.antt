-- The algorithm for minimal pairs, as a step on a state, and what `realise` answers.
use Rattle.std.specs.Prelude.{◌≡◌, ℕ, zero, suc, ◌+◌, ◌-◌, ◌*◌, ◌≤◌, cond, List, length, pos, negsuc, ◌+ℤ◌, ◌-ℤ◌, neg_ℤ, Ok, Err, Result, ◌==◌, int_lt, slice_index, unsigned_abs}
use Rattle.algebra.specs.Limits.{longest_sequence, coefficients}
use Rattle.algebra.specs.Meaning.{Arithmetic}
use Rattle.algebra.specs.Theorems.{Elements}
use Rattle.algebra.specs.Realisation.{applied, Minimal}
use Rattle.minimal_pairs.specs.Poly.{constant, combined, UpTo}
use Rattle.minimal_pairs.specs.declared.poly.Poly.{Poly}
use Rattle.minimal_pairs.specs.declared.minimal_pair.State.{State}
use Rattle.minimal_pairs.specs.declared.minimal_pair.RealiseRefusal.{RealiseRefusal}
use Rattle.minimal_pairs.specs.declared.minimal_pair.RealiseRefusal.TheVariants.{WrongLength, NoElement}

-- before the first number: the pair 1, 0, the kept pair 0, −1, the kept discrepancy 1, and d = −1
abbrev pub start : Arithmetic → State
start A = record {
  pair = record { f = constant 1; w = constant 0 };
  degree = 0;
  kept = record { f = constant 0; w = constant (A.minus 0 1) };
  kept_discrepancy = 1;
  d = negsuc 0;
}

-- the discrepancy of the pair at the number i: f_0 × s_(i−m) + .. + f_m × s_i, with m its degree
abbrev pub discrepancy : Arithmetic → List ℕ → ℕ → State → ℕ
discrepancy A s i st = applied A st.pair.f.coeffs st.degree s (i - st.degree)

-- d falls by one
abbrev pub passed : State → State
passed st =
    record {
      pair = st.pair;
      degree = st.degree;
      kept = st.kept;
      kept_discrepancy = st.kept_discrepancy;
      d = st.d -ℤ pos 1;
    }

-- The pair and the kept pair change places, D is the discrepancy now kept, and d changes its sign.
-- The degree is that of the pair to come, which is larger by d.
abbrev pub changed : ℕ → State → State
changed D st =
    let d = neg_ℤ st.d in
    record {
      pair = st.kept;
      degree = st.degree + unsigned_abs d;
      kept = st.pair;
      kept_discrepancy = D;
      d = d;
    }

-- kept discrepancy × p − D × X^d × q
abbrev pub stepped_poly : Arithmetic → ℕ → State → Poly → Poly → Poly
stepped_poly A D st p q = combined A st.kept_discrepancy p D (unsigned_abs st.d) q st.degree

-- the new pair is kept discrepancy × pair − D × X^d × kept pair, and d falls by one
abbrev pub updated : Arithmetic → ℕ → State → State
updated A D st = record {
  pair = record {
    f = stepped_poly A D st st.pair.f st.kept.f;
    w = stepped_poly A D st st.pair.w st.kept.w;
  };
  degree = st.degree;
  kept = st.kept;
  kept_discrepancy = st.kept_discrepancy;
  d = st.d -ℤ pos 1;
}

-- By the discrepancy D. Where it is 0, only d falls. Where it is not and d < 0, the pairs and the
-- discrepancies change places before the new pair is made.
abbrev pub advanced : Arithmetic → ℕ → State → State
advanced A D st =
    cond (D == 0) (passed st)
    (cond (int_lt st.d (pos 0)) (updated A st.kept_discrepancy (changed D st)) (updated A D st))

-- one step, at the number i of the sequence
abbrev pub stepped : Arithmetic → List ℕ → ℕ → State → State
stepped A s i st = advanced A (discrepancy A s i st) st

-- the state after the first i numbers of the sequence
unfoldable pub state_after : Arithmetic → List ℕ → ℕ → State
state_after A s zero = start A
state_after A s (suc i) = stepped A s i (state_after A s i)

-- how degree, d and the numbers read hang together, whatever the field
pub record Counted (i : ℕ) (st : State) : Type 0 where
  pub read : st.degree ≤ i
  pub d_is : st.d +ℤ pos (i + 1) ≡ pos (2 * st.degree)

-- the polynomials have no coefficients above the degree
pub record Bounded (st : State) : Type 0 where
  pub f_up_to : UpTo st.degree st.pair.f
  pub w_up_to : UpTo st.degree st.pair.w
  pub kept_f_up_to : UpTo st.degree st.kept.f
  pub kept_w_up_to : UpTo st.degree st.kept.w

-- the sequence is not too long, and the buffers have a place for each coefficient
pub record Lengths (s f w : List ℕ) : Type 0 where
  pub sequence_short : length s ≤ longest_sequence
  pub f_places : length f ≡ coefficients
  pub w_places : length w ≡ coefficients

-- every number of the sequence is an element
abbrev pub OfElements : Arithmetic → List ℕ → Type 0
OfElements A s = Elements A (length s) (λ i. slice_index s i)

abbrev pub realise_number : RealiseRefusal → ℕ
realise_number WrongLength = 25
realise_number NoElement = 17

-- The pair after the whole sequence stands in the buffers, and its degree is the answer. Else the
-- refusal is 25 for a wrong length, then 17 for a number that is no element; both leave the buffers
-- as they were.
abbrev pub Realised : Arithmetic → List ℕ → List ℕ → List ℕ → List ℕ → List ℕ
    → Result ℕ RealiseRefusal → Type 0
Realised A s f w f_after w_after (Ok m) =
    Lengths s f w × OfElements A s × (m ≡ (state_after A s (length s)).degree)
    × (f_after ≡ (state_after A s (length s)).pair.f.coeffs)
    × (w_after ≡ (state_after A s (length s)).pair.w.coeffs)
Realised A s f w f_after w_after (Err WrongLength) =
    (realise_number WrongLength ≡ 25) × (Lengths s f w → ⊥) × (f_after ≡ f) × (w_after ≡ w)
Realised A s f w f_after w_after (Err NoElement) =
    (realise_number NoElement ≡ 17) × Lengths s f w × (OfElements A s → ⊥)
    × (f_after ≡ f) × (w_after ≡ w)

-- what the answer is over a lawful field
abbrev pub MinimalAnswer : Arithmetic → List ℕ → List ℕ → List ℕ → Result ℕ RealiseRefusal → Type 0
MinimalAnswer A s f w (Ok m) = Minimal A s m f w
MinimalAnswer A s f w (Err refusal) = Unit {0}
