-- Four lists that are gone through together: the elements of a turn, and how many turns there are.
use Rattle.std.proofs.Common.{◌≡◌, ℕ, ◌<◌, List, length, get_or, Some, None, Option, ap, ◌∙◌, ap₂, arith, Iter, Bor}
use Rattle.std.proofs.iter.Yields.{fronts}
use Rattle.std.proofs.lemmas.Iterator.{zips, YieldsList, YieldsList-from_slice, YieldsList-from_zip}
use Rattle.std.proofs.lemmas.Iterator.Consumers.{YieldsList-turn, YieldsList-end}
use Rattle.std.proofs.lemmas.Slice.Zip.{length-zip, get_or-zip}
use Rattle.std.proofs.lemmas.List.{get_or_default}
use Rattle.std.specs.Iterator.{Yields}
use Rattle.std.specs.Iterator.Adapters.{zip_first, zip_second}
use Rattle.std.specs.Slice.Iter.{iter_rest}
use Rattle.std.specs.List.{zip}
use Rattle.std.specs.declared.iter.Zip.{Zip}

-- the elements of turn i
pub record Together {A B C D : Type 0} (la : List A) (lb : List B) (lc : List C) (ld : List D) (i : ℕ) (p : (Bor A × Bor B) × (Bor C × Bor D)) : Type 0 where
  pub within : i < length la
  pub first : (d : A) → p.0.0.now ≡ get_or la i d
  pub second : (d : B) → p.0.1.now ≡ get_or lb i d
  pub third : (d : C) → p.1.0.now ≡ get_or lc i d
  pub fourth : (d : D) → p.1.1.now ≡ get_or ld i d

module _ {A B C D : Type 0} (la : List A) (lb : List B) (lc : List C) (ld : List D)
    (s t u : Zip (Zip (Iter A) (Iter B)) (Zip (Iter C) (Iter D))) (xs : List ((Bor A × Bor B) × (Bor C × Bor D))) (r : Option ((Bor A × Bor B) × (Bor C × Bor D)))
    (first : iter_rest (zip_first (zip_first s)) ≡ la) (second : iter_rest (zip_second (zip_first s)) ≡ lb)
    (third : iter_rest (zip_first (zip_second s)) ≡ lc) (fourth : iter_rest (zip_second (zip_second s)) ≡ ld)
    (so_far : Yields (zips (zips fronts fronts) (zips fronts fronts)) s xs t) (step : zips (zips fronts fronts) (zips fronts fronts) t r u) where
  abbrev seen : ((Bor A × Bor B) × (Bor C × Bor D)) → (A × B) × (C × D)
  seen p = ((p.0.0.now, p.0.1.now), (p.1.0.now, p.1.1.now))

  abbrev all : List ((A × B) × (C × D))
  all = zip (zip la lb) (zip lc ld)

  road : YieldsList (zips (zips fronts fronts) (zips fronts fronts)) seen s all
  road =
      YieldsList-from_zip (YieldsList-from_zip (YieldsList-from_slice la first) (YieldsList-from_slice lb second))
      (YieldsList-from_zip (YieldsList-from_slice lc third) (YieldsList-from_slice ld fourth))

  module _ (p : (Bor A × Bor B) × (Bor C × Bor D)) (is : r ≡ Some p) where
    turn : (length xs < length all) × (seen p ≡ get_or all (length xs) (seen p))
    turn = YieldsList-turn road xs t so_far r u p is step

    front : length xs < length (zip la lb)
    front = omega (arith, turn.0, length-zip (zip la lb) (zip lc ld))

    back : length xs < length (zip lc ld)
    back = omega (arith, turn.0, length-zip (zip la lb) (zip lc ld))

    within : length xs < length la
    within = omega (arith, front, length-zip la lb)

    elements : seen p ≡ ((get_or la (length xs) p.0.0.now, get_or lb (length xs) p.0.1.now), (get_or lc (length xs) p.1.0.now, get_or ld (length xs) p.1.1.now))
    elements =
        turn.1 ∙ get_or-zip (zip la lb) (zip lc ld) (length xs) (seen p) front back
        ∙ ap₂ (λ (v : A × B) (w : C × D). (v, w))
        (get_or-zip la lb (length xs) (seen p).0 within (omega (arith, front, length-zip la lb)))
        (get_or-zip lc ld (length xs) (seen p).1 (omega (arith, back, length-zip lc ld)) (omega (arith, back, length-zip lc ld)))

    pub together : Together la lb lc ld (length xs) p
    together = record {
      within = within;
      first = λ d. ap (λ (w : (A × B) × (C × D)). w.0.0) elements ∙ get_or_default la (length xs) _ d within;
      second = λ d. ap (λ (w : (A × B) × (C × D)). w.0.1) elements ∙ get_or_default lb (length xs) _ d (omega (arith, front, length-zip la lb));
      third = λ d. ap (λ (w : (A × B) × (C × D)). w.1.0) elements ∙ get_or_default lc (length xs) _ d (omega (arith, back, length-zip lc ld));
      fourth = λ d. ap (λ (w : (A × B) × (C × D)). w.1.1) elements ∙ get_or_default ld (length xs) _ d (omega (arith, back, length-zip lc ld));
    }

  pub all_gone : r ≡ None → length lb ≡ length la → length lc ≡ length la → length ld ≡ length la → length xs ≡ length la
  all_gone none b-long c-long d-long =
      omega (arith, (YieldsList-end road xs t so_far r u none step).1, length-zip (zip la lb) (zip lc ld), length-zip la lb, length-zip lc ld)
