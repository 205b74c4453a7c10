-- Lists of numbers that end where the body ends.
use Rattle.std.proofs.Common.{◌≡◌, ℕ, ◌+◌, ◌<◌, List, ◌++◌, length, drop, sym, ap, ◌∙◌, subst, inl, inr, ⊎_elim, arith}
use Rattle.std.proofs.lemmas.List.{length-append}
use Rattle.tray_file.specs.number.NumberReading.{EndsInside, NoNumber}
use Rattle.tray_file.specs.declared.fault.body_fault.BodyFault.{BodyFault}
use Rattle.tray_file.specs.declared.fault.body_fault.BodyFault.TheVariants.{BadNumber, BadBody, BadNote, Field, Card, Tag}
use Rattle.tray_file.specs.body.NumberLists.{numbers, after, Begins, Stops, NumberMissing}
use Rattle.tray_file.specs.body.WholeLists.{GoesOn, ListRefused, Are}
use Rattle.tray_file.proofs.body_lemmas.NumberLists.{from_end, numbers_append, small_append, length_numbers_append, after_append, begins_append}

-- a number that is missing in the first of two lists
pub missing_first : (start count : ℕ) (bytes : List ℕ) (fault : BodyFault) → NumberMissing start count bytes fault → ListRefused start (count + count) bytes fault
missing_first start count bytes (BadNumber place) (stop, at_place) =
    (record { values = stop.values; begins = stop.begins; fewer = omega (arith, stop.fewer); missing = stop.missing }, at_place)
missing_first start count bytes BadBody stop =
    inl (record { values = stop.values; begins = stop.begins; fewer = omega (arith, stop.fewer); missing = stop.missing })
missing_first start count bytes BadNote never = never
missing_first start count bytes (Field fault) never = never
missing_first start count bytes (Card cause) never = never
missing_first start count bytes (Tag cause) never = never

-- what stops the second of two lists stops both
module _ (vs bytes : List ℕ) (count : ℕ) (begins : Begins vs bytes) (first : length vs ≡ count) where
  abbrev stops_second : (Missing : List ℕ → Type 0) → (stop : Stops Missing count (after vs bytes)) → Stops Missing (count + count) bytes
  stops_second Missing stop = record {
    values = vs ++ stop.values;
    begins = begins_append vs stop.values bytes begins stop.begins;
    fewer = omega (arith, length-append vs stop.values, stop.fewer);
    missing = subst Missing (sym (after_append vs stop.values bytes)) stop.missing;
  }

  goes_on_second : GoesOn count (after vs bytes) → GoesOn (count + count) bytes
  goes_on_second more = record {
    values = vs ++ more.values;
    begins = begins_append vs more.values bytes begins more.begins;
    all = length-append vs more.values ∙ omega (arith, more.all);
    more = subst (λ (l : List ℕ). 0 < length l) (sym (after_append vs more.values bytes)) more.more;
  }

  pub refused_second : (start : ℕ) (fault : BodyFault) → ListRefused (start + length (numbers vs)) count (after vs bytes) fault →
      ListRefused start (count + count) bytes fault
  refused_second start (BadNumber place) (stop, at_place) =
      let long = length_numbers_append vs stop.values in
      (stops_second NoNumber stop, at_place ∙ omega arith)
  refused_second start BadBody either =
      ⊎_elim (λ stop. inl (stops_second EndsInside stop)) (λ more. inr (goes_on_second more)) either
  refused_second start BadNote never = never
  refused_second start (Field fault) never = never
  refused_second start (Card cause) never = never
  refused_second start (Tag cause) never = never

  pub are_both : (ws : List ℕ) → Are ws (after vs bytes) → Are (vs ++ ws) bytes
  are_both ws rest = record {
    small = small_append vs ws begins.small rest.small;
    bytes_are = begins.front ∙ ap (λ (l : List ℕ). numbers vs ++ l) rest.bytes_are ∙ sym (numbers_append vs ws);
  }

-- the same, at the place after the first list
pub refused_after : (vs body : List ℕ) (start end count : ℕ) (fault : BodyFault) → Begins vs (drop start body) → length vs ≡ count →
    end ≡ start + length (numbers vs) → ListRefused end count (drop end body) fault → ListRefused start (count + count) (drop start body) fault
refused_after vs body start end count fault begins first is refused =
    let here = subst (λ (l : List ℕ). ListRefused end count l fault) (from_end vs body start end is) refused in
    refused_second vs (drop start body) count begins first start fault (subst (λ n. ListRefused n count (after vs (drop start body)) fault) is here)
