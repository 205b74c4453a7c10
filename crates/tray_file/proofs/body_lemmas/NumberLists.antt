-- Numbers that stand one after another.
use Rattle.std.proofs.Common.{◌≡◌, ℕ, suc, ◌+◌, ◌<◌, ◌≤◌, List, [], ◌∷◌, ◌++◌, length, get_or, drop, Ok, Err, sym, refl, ap, ◌∙◌, subst, arith}
use Rattle.std.proofs.lemmas.List.{append_assoc, append-nil, length-append, drop-drop}
use Rattle.algebra.specs.Limits.{largest_size}
use Rattle.tray_file.specs.number.Numbers.{number_bytes}
use Rattle.tray_file.specs.number.NumberReading.{StandsFirst, EndsInside, NoNumber}
use Rattle.tray_file.specs.declared.number.reading.NumberRead.{NumberRead}
use Rattle.tray_file.specs.declared.fault.body_fault.BodyFault.{BodyFault}
use Rattle.tray_file.specs.declared.fault.body_fault.BodyFault.TheVariants.{BadNumber, BadBody, BadNote, Field, Card, Tag}
use Rattle.tray_file.specs.body.NumberLists.{numbers, Small, after, Begins, NumberMissing, NumberIn}

pub numbers_append : (vs ws : List ℕ) → numbers (vs ++ ws) ≡ numbers vs ++ numbers ws
numbers_append [] ws = refl
numbers_append (v ∷ vs) ws =
    ap (λ (l : List ℕ). number_bytes v ++ l) (numbers_append vs ws) ∙ sym (append_assoc (number_bytes v) (numbers vs) (numbers ws))

pub numbers_one : (v : ℕ) → numbers (v ∷ []) ≡ number_bytes v
numbers_one v = append-nil (number_bytes v)

pub length_numbers_append : (vs ws : List ℕ) → length (numbers (vs ++ ws)) ≡ length (numbers vs) + length (numbers ws)
length_numbers_append vs ws = ap length (numbers_append vs ws) ∙ length-append (numbers vs) (numbers ws)

pub small_append : (vs ws : List ℕ) → Small vs → Small ws → Small (vs ++ ws)
small_append [] ws s t = t
small_append (v ∷ vs) ws (small, rest) t = (small, small_append vs ws rest t)

-- numbers below the largest size
pub small_below : (size : ℕ) (list : List ℕ) → size ≤ largest_size → ((j : ℕ) → j < length list → get_or list j 0 < size) → Small list
small_below size [] bound below = tt
small_below size (v ∷ vs) bound below = (omega (arith, below 0 (omega arith)), small_below size vs bound (λ j h. below (suc j) (omega arith)))

-- what follows two lists follows the second after the first
pub after_append : (vs ws bytes : List ℕ) → after (vs ++ ws) bytes ≡ after ws (after vs bytes)
after_append vs ws bytes =
    ap (λ n. drop n bytes) (length_numbers_append vs ws) ∙ sym (drop-drop (length (numbers ws)) (length (numbers vs)) bytes)

pub begins_none : (bytes : List ℕ) → Begins [] bytes
begins_none bytes = record { small = tt; front = refl }

pub begins_append : (vs ws bytes : List ℕ) → Begins vs bytes → Begins ws (after vs bytes) → Begins (vs ++ ws) bytes
begins_append vs ws bytes first second = record {
  small = small_append vs ws first.small second.small;
  front = first.front ∙ ap (λ (l : List ℕ). numbers vs ++ l) second.front ∙ sym (append_assoc (numbers vs) (numbers ws) (after ws (after vs bytes)))
      ∙ ap (λ (l : List ℕ). l ++ after ws (after vs bytes)) (sym (numbers_append vs ws)) ∙ ap (λ (l : List ℕ). numbers (vs ++ ws) ++ l) (sym (after_append vs ws bytes));
}

pub begins_one : (v : ℕ) (bytes : List ℕ) → StandsFirst v bytes → Begins (v ∷ []) bytes
begins_one v bytes first =
    let one = sym (numbers_one v) in
    record {
      small = (first.small, tt);
      front = first.front ∙ ap (λ (l : List ℕ). l ++ drop (length l) bytes) one;
    }

-- the bytes at the place after some numbers
pub from_end : (vs body : List ℕ) (start end : ℕ) → end ≡ start + length (numbers vs) → drop end body ≡ after vs (drop start body)
from_end vs body start end is = ap (λ n. drop n body) is ∙ sym (drop-drop (length (numbers vs)) start body)

-- one number more
pub list_more : (vs body : List ℕ) (start end : ℕ) (read : NumberRead) → Begins vs (drop start body) → end ≡ start + length (numbers vs) →
    NumberIn (drop end body) end (Ok read) →
    Begins (vs ++ read.value ∷ []) (drop start body) × (read.end ≡ start + length (numbers (vs ++ read.value ∷ [])))
list_more vs body start end read so_far is (first, place) =
    let v = read.value in
    let here = subst (StandsFirst v) (from_end vs body start end is) first in
    let long = length_numbers_append vs (v ∷ []) in
    let one = ap length (numbers_one v) in
    (begins_append vs (v ∷ []) (drop start body) so_far (begins_one v (after vs (drop start body)) here), omega arith)

-- no number more
pub list_stops : (vs body : List ℕ) (start end wanted : ℕ) (fault : BodyFault) → Begins vs (drop start body) → end ≡ start + length (numbers vs) →
    length vs < wanted → NumberIn (drop end body) end (Err fault) → NumberMissing start wanted (drop start body) fault
list_stops vs body start end wanted (BadNumber place) so_far is fewer (bad, here) =
    (record { values = vs; begins = so_far; fewer = fewer; missing = subst NoNumber (from_end vs body start end is) bad }, here ∙ is)
list_stops vs body start end wanted BadBody so_far is fewer inside =
    record { values = vs; begins = so_far; fewer = fewer; missing = subst EndsInside (from_end vs body start end is) inside }
list_stops vs body start end wanted BadNote so_far is fewer never = never
list_stops vs body start end wanted (Field fault) so_far is fewer never = never
list_stops vs body start end wanted (Card cause) so_far is fewer never = never
list_stops vs body start end wanted (Tag cause) so_far is fewer never = never
