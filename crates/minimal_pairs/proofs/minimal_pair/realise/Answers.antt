use Rattle.std.proofs.Common.{◌≡◌, ℕ, suc, ◌≤◌, List, length, refl, sym, ap, ◌∙◌, subst, subst₂, add-one, arith}
use mathlib.Core.Path.{subst⁻¹}
use Rattle.fields.specs.Elements.{AllBelow}
use Rattle.algebra.specs.Limits.{longest_sequence}
use Rattle.algebra.specs.Meaning.{Arithmetic}
use Rattle.minimal_pairs.specs.declared.minimal_pair.State.{State}
use Rattle.minimal_pairs.specs.MinimalPair.{state_after, stepped, Counted, Bounded, OfElements}
use Rattle.algebra.specs.Realisation.{Minimal}
use Rattle.minimal_pairs.proofs.Counting.{counted}
use Rattle.minimal_pairs.proofs.Bounds.{bounded}
use Rattle.minimal_pairs.proofs.PairInvariant.{MinimalState, minimal_after}
use Rattle.minimal_pairs.proofs.minimal_pair.realise.Goals as goal

pub step-requires-clause-counted : goal.step-requires-clause-counted
step-requires-clause-counted g c =
    let A = (g.F.Field.meaning c.args.field.now).arithmetic in
    subst⁻¹ (λ (st : State). Counted c.loop-i.i st) c.loop-i.invariant (counted A c.args.sequence.now c.loop-i.i)

pub step-requires-clause-bounded : goal.step-requires-clause-bounded
step-requires-clause-bounded g c =
    let A = (g.F.Field.meaning c.args.field.now).arithmetic in
    subst⁻¹ Bounded c.loop-i.invariant (bounded A c.args.sequence.now c.loop-i.i)

pub loop-i-init : goal.loop-i-init
unfolding state_after
loop-i-init g c = c.new-state.ensures

-- a turn reads one number more
turn : (A : Arithmetic) (s : List ℕ) (i : ℕ) (before after : State) → before ≡ state_after A s i → after ≡ stepped A s i before → after ≡ state_after A s (suc i)
unfolding state_after
turn A s i before after is made = made ∙ ap (stepped A s i) is

pub loop-i-preserved : goal.loop-i-preserved
loop-i-preserved g c =
    let A = (g.F.Field.meaning c.args.field.now).arithmetic in
    turn A c.args.sequence.now c.loop-i.i c.loop-i.state c.step.new.self c.loop-i.invariant c.step.ensures
    ∙ ap (state_after A c.args.sequence.now) (sym (add-one c.loop-i.i))

pub returns : goal.returns
returns g c =
    let meaning = g.F.Field.meaning c.args.field.now in
    let A = meaning.arithmetic in
    let s = c.args.sequence.now in
    let short : length s ≤ longest_sequence = omega arith in
    let whole : c.loop-i.i ≡ length s = omega arith in
    let last : c.loop-i.state ≡ state_after A s (length s) = c.loop-i.invariant ∙ ap (state_after A s) whole in
    let elements : OfElements A s = subst (λ (n : ℕ). AllBelow n s) c.size.ensures (c.if-not-all_below.ensures.0 refl) in
    record {
      pinned = (
        record { sequence_short = short; f_places = omega arith; w_places = omega arith },
        elements,
        ap (λ (st : State). st.degree) last,
        c.copy_from_slice.ensures.after ∙ ap (λ (st : State). st.pair.f.coeffs) last,
        c.copy_from_slice-2.ensures.after ∙ ap (λ (st : State). st.pair.w.coeffs) last,
      );
      minimal = λ accepted.
          subst₂ (λ (f w : List ℕ). Minimal A s c.loop-i.state.degree f w) (sym c.copy_from_slice.ensures.after) (sym c.copy_from_slice-2.ensures.after)
          (subst⁻¹ (MinimalState A s) last (minimal_after (g.met.F.Field.lawful c.args.field.now accepted) s elements short));
    }
