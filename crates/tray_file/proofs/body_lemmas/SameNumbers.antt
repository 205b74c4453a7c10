-- Bytes that begin with numbers begin with no others.
use Rattle.std.proofs.Common.{◌≡◌, ℕ, ◌<◌, ◌≤◌, List, [], ◌∷◌, ◌++◌, length, take, drop, sym, refl, ap, ◌∙◌, subst, ap₂, ⊎_elim, arith}
use Rattle.std.proofs.lemmas.List.{append_assoc, append-nil, length-append, length-drop, drop-drop, drop_at, take_all}
use Rattle.tray_file.specs.number.Numbers.{number_bytes}
use Rattle.tray_file.specs.number.NumberReading.{StandsFirst, EndsInside, NoNumber}
use Rattle.tray_file.proofs.number_lemmas.NumberBytes.{stands, same_number, not_inside}
use Rattle.tray_file.specs.declared.fault.body_fault.BodyFault.{BodyFault}
use Rattle.tray_file.specs.declared.fault.body_fault.BodyFault.TheVariants.{BadNumber, BadBody, BadNote, Field, Card, Tag}
use Rattle.tray_file.specs.body.NumberLists.{numbers, Small, after, Begins, Stops, NumberMissing}
use Rattle.tray_file.specs.body.WholeLists.{GoesOn, ListRefused, Are}

pub begins_of : (vs bytes rest : List ℕ) → Small vs → bytes ≡ numbers vs ++ rest → Begins vs bytes
begins_of vs bytes rest small e = record {
  small = small;
  front = e ∙ ap (λ (l : List ℕ). numbers vs ++ l) (sym (drop_at (numbers vs) rest (length (numbers vs)) refl) ∙ ap (drop (length (numbers vs))) (sym e));
}

pub are_begins : (vs bytes : List ℕ) → Are vs bytes → Begins vs bytes
are_begins vs bytes are = begins_of vs bytes [] are.small (are.bytes_are ∙ sym (append-nil (numbers vs)))

head_of : (v : ℕ) (vs bytes : List ℕ) → Begins (v ∷ vs) bytes → StandsFirst v bytes × Begins vs (drop (length (number_bytes v)) bytes)
head_of v vs bytes begins =
    let rest = after (v ∷ vs) bytes in
    let e = begins.front ∙ append_assoc (number_bytes v) (numbers vs) rest in (
      stands v bytes (numbers vs ++ rest) begins.small.0 e,
      begins_of vs (drop (length (number_bytes v)) bytes) rest begins.small.1 (ap (drop (length (number_bytes v))) e ∙ drop_at (number_bytes v) (numbers vs ++ rest) (length (number_bytes v)) refl),
    )

pub begins_prefix : (vs ws bytes : List ℕ) → Begins vs bytes → Begins ws bytes → length vs ≤ length ws → vs ≡ take (length vs) ws
begins_prefix [] ws bytes first second fewer = refl
begins_prefix (v ∷ vs) [] bytes first second fewer = absurd (omega arith)
begins_prefix (v ∷ vs) (w ∷ ws) bytes first second fewer =
    let h = head_of v vs bytes first in
    let k = head_of w ws bytes second in
    let same = same_number v w bytes h.0 k.0 in
    let rest = subst (λ n. Begins ws (drop (length (number_bytes n)) bytes)) (sym same) k.1 in
    ap₂ (λ x (l : List ℕ). x ∷ l) same (begins_prefix vs ws (drop (length (number_bytes v)) bytes) h.1 rest (omega arith))

pub same_list : (vs ws bytes : List ℕ) → Begins vs bytes → Begins ws bytes → length vs ≡ length ws → vs ≡ ws
same_list vs ws bytes first second same = begins_prefix vs ws bytes first second (omega arith) ∙ take_all (length vs) ws (omega arith)

-- after fewer numbers there is one more
pub next_number : (vs ws bytes : List ℕ) → Begins vs bytes → Begins ws bytes → length vs < length ws → (w : ℕ) × StandsFirst w (after vs bytes)
next_number [] [] bytes first second fewer = absurd (omega arith)
next_number [] (w ∷ ws) bytes first second fewer = (w, (head_of w ws bytes second).0)
next_number (v ∷ vs) [] bytes first second fewer = absurd (omega arith)
next_number (v ∷ vs) (w ∷ ws) bytes first second fewer =
    let h = head_of v vs bytes first in
    let k = head_of w ws bytes second in
    let same = same_number v w bytes h.0 k.0 in
    let rest = subst (λ n. Begins ws (drop (length (number_bytes n)) bytes)) (sym same) k.1 in
    let found = next_number vs ws (drop (length (number_bytes v)) bytes) h.1 rest (omega arith) in
    let here : after (v ∷ vs) bytes ≡ after vs (drop (length (number_bytes v)) bytes) =
    ap (λ n. drop n bytes) (length-append (number_bytes v) (numbers vs)) ∙ sym (drop-drop (length (numbers vs)) (length (number_bytes v)) bytes) in
    (found.0, subst (StandsFirst found.0) (sym here) found.1)

pub bad_never : (ws bytes : List ℕ) (wanted : ℕ) → Begins ws bytes → wanted ≤ length ws → Stops NoNumber wanted bytes → ⊥
bad_never ws bytes wanted begins most stop =
    let found = next_number stop.values ws bytes stop.begins begins (omega (arith, stop.fewer)) in
    stop.missing.none found.0 found.1

pub cut_never : (ws bytes : List ℕ) (wanted : ℕ) → Begins ws bytes → wanted ≤ length ws → Stops EndsInside wanted bytes → ⊥
cut_never ws bytes wanted begins most stop =
    let found = next_number stop.values ws bytes stop.begins begins (omega (arith, stop.fewer)) in
    not_inside found.0 (after stop.values bytes) found.1 stop.missing

-- where enough numbers stand first, none of them is missing
pub missing_never : (start wanted : ℕ) (ws bytes : List ℕ) (fault : BodyFault) → Begins ws bytes → wanted ≤ length ws → NumberMissing start wanted bytes fault → ⊥
missing_never start wanted ws bytes (BadNumber place) begins most refused = bad_never ws bytes wanted begins most refused.0
missing_never start wanted ws bytes BadBody begins most refused = cut_never ws bytes wanted begins most refused
missing_never start wanted ws bytes BadNote begins most never = never
missing_never start wanted ws bytes (Field fault) begins most never = never
missing_never start wanted ws bytes (Card cause) begins most never = never
missing_never start wanted ws bytes (Tag cause) begins most never = never

goes_on_never : (ws bytes : List ℕ) → Are ws bytes → GoesOn (length ws) bytes → ⊥
goes_on_never ws bytes are more =
    let same = same_list more.values ws bytes more.begins (are_begins ws bytes are) more.all in
    let none = length-drop (length (numbers more.values)) bytes in
    omega (arith, more.more, ap length are.bytes_are, ap (λ (l : List ℕ). length (numbers l)) same)

-- bytes that are so many numbers are not refused as such
pub list_never : (start wanted : ℕ) (ws bytes : List ℕ) (fault : BodyFault) → Are ws bytes → length ws ≡ wanted → ListRefused start wanted bytes fault → ⊥
list_never start wanted ws bytes (BadNumber place) are count refused = bad_never ws bytes wanted (are_begins ws bytes are) (omega arith) refused.0
list_never start wanted ws bytes BadBody are count refused =
    ⊎_elim (cut_never ws bytes wanted (are_begins ws bytes are) (omega arith))
    (λ more. goes_on_never ws bytes are (subst (λ n. GoesOn n bytes) (sym count) more))
    refused
list_never start wanted ws bytes BadNote are count never = never
list_never start wanted ws bytes (Field fault) are count never = never
list_never start wanted ws bytes (Card cause) are count never = never
list_never start wanted ws bytes (Tag cause) are count never = never
