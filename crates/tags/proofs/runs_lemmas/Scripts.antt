-- A script is played call by call.
use Rattle.std.proofs.Common.{◌≡◌, ℕ, zero, suc, ◌+◌, ◌-◌, ◌<◌, ◌≤◌, min, leb, List, [], ◌∷◌, ◌++◌, map, length, take, Some, None, sym, refl, ap, ◌∙◌, subst, ⊎_elim, zero-le, le_refl, add-one, arith}
use Rattle.std.specs.List.{slice_get}
use Rattle.std.proofs.lemmas.List.{append_assoc, append-nil, map_push, length_push, length-map, length-take, take_all}
use Rattle.std.proofs.lemmas.List.Sums.{sum_by-cons}
use Rattle.std.proofs.lemmas.Bool.{cases_Bool, cond-true, cond-false, leb-true, le-leb, lt-leb, lt-ltb, le-ltb}
use Rattle.tags.specs.runs.Calls.{call_of}
use Rattle.tags.specs.runs.Plays.{PicksAll, Ended}
use Rattle.tags.specs.runs.Rooms.{lent_to, used}
use Rattle.tags.specs.runs.Scripts.{ScriptPicks, playable, script_ending}
use Rattle.tags.specs.declared.runs.call.Call.{Call}
use Rattle.tags.specs.declared.runs.call.Call.TheVariants.{Read}
use Rattle.tags.specs.declared.runs.ending.Ending.{Ending}
use Rattle.tags.specs.declared.runs.ending.Ending.TheVariants.{Stopped, JournalFull, RoomUsed}
use Rattle.tags.specs.declared.runs.event.Event.{Event}
use Rattle.tags.specs.declared.runs.script.Script.{Script}

take_nth : (calls : List Call) (i : ℕ) (call : Call) → Some call ≡ slice_get calls i → take (suc i) calls ≡ take i calls ++ (call ∷ [])
take_nth [] i call at = let zero_one : ◌≡◌ {A = ℕ} 0 1 = cc in absurd (omega arith)
take_nth (x ∷ calls) zero call at = let same : x ≡ call = cc in ap (λ (c : Call). c ∷ []) same
take_nth (x ∷ calls) (suc i) call at = ap (λ (cs : List Call). x ∷ cs) (take_nth calls i call at)

none_at : (calls : List Call) (i : ℕ) → None ≡ slice_get calls i → length calls ≤ i
none_at [] i at = omega arith
none_at (x ∷ calls) zero at = let zero_one : ◌≡◌ {A = ℕ} 0 1 = cc in absurd (omega arith)
none_at (x ∷ calls) (suc i) at = let rest = none_at calls i at in omega arith

at_within : (calls : List Call) (i : ℕ) (call : Call) → Some call ≡ slice_get calls i → i < length calls
at_within [] i call at = let zero_one : ◌≡◌ {A = ℕ} 0 1 = cc in absurd (omega arith)
at_within (x ∷ calls) zero call at = omega arith
at_within (x ∷ calls) (suc i) call at = let rest = at_within calls i call at in omega arith

-- the events are of the script's first calls
abbrev Follows : Script → List Event → Type 0
Follows script events = map call_of events ≡ take (length events) script.calls.now

follows_more : (script : Script) (events : List Event) (e : Event) → Follows script events → Some (call_of e) ≡ slice_get script.calls.now (length events) → Follows script (events ++ (e ∷ []))
follows_more script events e so_far at =
    map_push call_of events e ∙ ap (λ (cs : List Call). cs ++ (call_of e ∷ [])) so_far ∙ sym (take_nth script.calls.now (length events) (call_of e) at)
    ∙ ap (λ n. take n script.calls.now) (sym (length_push events e ∙ add-one (length events)))

follows : (script last : Script) (earlier events : List Event) → Follows script earlier → PicksAll ScriptPicks earlier script events last → Follows script (earlier ++ events) × (last ≡ script)
follows script last earlier [] so_far same = (subst (Follows script) (sym (append-nil earlier)) so_far, sym same)
follows script last earlier (e ∷ events) so_far picked =
    let rest = follows script last (earlier ++ (e ∷ [])) events (follows_more script earlier e so_far picked.1.0)
    (subst (λ (next : Script). PicksAll ScriptPicks (earlier ++ (e ∷ [])) next events last) picked.1.1 picked.2) in
    (subst (Follows script) (append_assoc earlier (e ∷ []) events) rest.0, rest.1)

not_more : (script : Script) (events : List Event) → Follows script events → length events ≤ length script.calls.now
not_more script events is = omega (arith, sym (length-map events call_of) ∙ ap length is, length-take (length events) script.calls.now)

-- how many calls can be played in a room

pub playable_most : (size : ℕ) (calls : List Call) → playable size calls ≤ length calls
playable_most size [] = omega arith
playable_most size (call ∷ calls) =
    let rest = playable_most (size - lent_to call) calls in
    ⊎_elim
    (λ fits. let is : playable size (call ∷ calls) ≡ suc (playable (size - lent_to call) calls) = cond-true _ _ _ fits in omega (arith, is, rest))
    (λ more. let is : playable size (call ∷ calls) ≡ 0 = cond-false _ _ _ more in omega (arith, is))
    (cases_Bool (leb (lent_to call) size))

pub playable_least : (k size : ℕ) (calls : List Call) → k ≤ length calls → used (take k calls) ≤ size → k ≤ playable size calls
playable_least zero size calls within fits = zero-le
playable_least (suc k) size [] within fits = absurd (omega arith)
playable_least (suc k) size (call ∷ calls) within fits =
    let parts = sum_by-cons lent_to call (take k calls) in
    let rest = playable_least k (size - lent_to call) calls (omega arith) (omega (arith, parts, fits)) in
    let is : playable size (call ∷ calls) ≡ suc (playable (size - lent_to call) calls) = cond-true _ _ _ (le-leb (lent_to call) size (omega (arith, parts, fits))) in
    omega (arith, is, rest)

playable_stop : (k size : ℕ) (calls : List Call) (call : Call) → Some call ≡ slice_get calls k → size < used (take k calls) + lent_to call → (playable size calls ≤ k) × (k < length calls)
playable_stop k size [] call at more = let zero_one : ◌≡◌ {A = ℕ} 0 1 = cc in absurd (omega arith)
playable_stop zero size (x ∷ calls) call at more =
    let same : call ≡ x = cc in
    let wants : lent_to call ≡ lent_to x = ap lent_to same in
    let is : playable size (x ∷ calls) ≡ 0 = cond-false _ _ _ (lt-leb (lent_to x) size (omega (arith, wants, more))) in
    (omega (arith, is), omega arith)
playable_stop (suc k) size (x ∷ calls) call at more =
    let parts = sum_by-cons lent_to x (take k calls) in
    ⊎_elim
    (λ fits.
    let small = leb-true (lent_to x) size fits in
    let rest = playable_stop k (size - lent_to x) calls call at (omega (arith, parts, small, more)) in
    let is : playable size (x ∷ calls) ≡ suc (playable (size - lent_to x) calls) = cond-true _ _ _ fits in
    (omega (arith, is, rest.0), omega (arith, rest.1)))
    (λ large.
    let is : playable size (x ∷ calls) ≡ 0 = cond-false _ _ _ large in
    (omega (arith, is), omega (arith, at_within calls k call at)))
    (cases_Bool (leb (lent_to x) size))

-- calls that are lent no more than the room has are all played
pub playable_all : (size : ℕ) (calls : List Call) → used calls ≤ size → playable size calls ≡ length calls
playable_all size calls fits =
    let whole = take_all (length calls) calls (le_refl (length calls)) in
    let least = playable_least (length calls) size calls (le_refl (length calls)) (subst (λ (cs : List Call). used cs ≤ size) (sym whole) fits) in
    let most = playable_most size calls in
    omega arith

-- how far a script is played
pub record Through (calls : List Call) (events : List Event) (size places : ℕ) (ending : Ending) : Type 0 where
  pub as_many : length events ≡ min (playable size calls) places
  pub ended : ending ≡ script_ending size calls places
  pub same : map call_of events ≡ take (length events) calls

pub through : (script last : Script) (events : List Event) (size places : ℕ) (ending : Ending) → used (map call_of events) ≤ size → Ended ScriptPicks script last events size places ending → Through script.calls.now events size places ending
through script last events size places Stopped fits end =
    let is = follows script end.0 [] events refl end.1 in
    let calls = script.calls.now in
    let all : length calls ≤ length events = none_at calls (length events) (end.2.0 ∙ ap (λ (s : Script). slice_get s.calls.now (length events)) is.1) in
    let least = playable_least (length events) size calls (not_more script events is.0) (subst (λ (cs : List Call). used cs ≤ size) is.0 fits) in
    let most = playable_most size calls in
    let room = end.3 in
    record {
      as_many = omega arith;
      ended = sym (cond-false _ _ _ (lt-leb places (playable size calls) (omega arith)) ∙ cond-false _ _ _ (le-ltb (playable size calls) (length calls) (omega arith)));
      same = is.0;
    }
through script last events size places JournalFull fits end =
    let is = follows script last [] events refl end.0 in
    let calls = script.calls.now in
    let least = playable_least (length events) size calls (not_more script events is.0) (subst (λ (cs : List Call). used cs ≤ size) is.0 fits) in
    let full = end.1 in
    record { as_many = omega arith; ended = sym (cond-true _ _ _ (le-leb places (playable size calls) (omega arith))); same = is.0 }
through script last events size places RoomUsed fits end =
    let is = follows script end.0 [] events refl end.1 in
    let calls = script.calls.now in
    let wanted = end.2.0 in
    let at : Some (Read wanted) ≡ slice_get calls (length events) = end.2.1.0 ∙ ap (λ (s : Script). slice_get s.calls.now (length events)) is.1 in
    let stop = playable_stop (length events) size calls (Read wanted) at (subst (λ (cs : List Call). size < used cs + wanted) is.0 end.2.2) in
    let least = playable_least (length events) size calls (not_more script events is.0) (subst (λ (cs : List Call). used cs ≤ size) is.0 fits) in
    let room = end.3 in
    record {
      as_many = omega arith;
      ended = sym (cond-false _ _ _ (lt-leb places (playable size calls) (omega arith)) ∙ cond-true _ _ _ (lt-ltb (playable size calls) (length calls) (omega arith)));
      same = is.0;
    }
