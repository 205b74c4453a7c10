-- Exactly one outcome meets the relation of a read.
use Rattle.std.proofs.Common.{◌≡◌, ℕ, zero, suc, ◌+◌, ◌*◌, ◌<◌, ◌≤◌, List, length, get_or, Some, None, Ok, Err, Option, Result, sym, refl, ap, ◌∙◌, subst, ap₂, inl, inr, arith}
use native.Mathlib.Decide.{ℕ_discrete, dec_lt}
use Rattle.std.proofs.lemmas.Bool.{cases_eq, cases_lt}
use Rattle.algebra.specs.Meaning.{Arithmetic, Meaning}
use Rattle.codes.specs.Code.{Code}
use Rattle.codes.specs.Checked.{Checked}
use Rattle.codes.specs.Cells.{blanks, noted}
use Rattle.decoding.specs.filling.Fillings.{filled}
use Rattle.minimal_pairs.specs.MinimalPair.{state_after}
use Rattle.codes.specs.Sums.{syndromes}
use Rattle.codes.specs.Standings.{Lettered, AllZero}
use Rattle.codes.specs.declared.cell.Cell.{Cell}
use Rattle.decoding.specs.reading.Reading.{wrong, reach, Reading, OneReading}
use Rattle.decoding.specs.reading.Decoding.{modified_syndromes, Locates, Accepted, Decoded}
use Rattle.decoding.specs.declared.reading.read_answer.Counts.{Counts}
use Rattle.decoding.specs.declared.reading.read_answer.ReadRefusal.{ReadRefusal}
use Rattle.decoding.specs.declared.reading.read_answer.ReadRefusal.TheVariants.{WrongLength, TooBlank, Lost}
use Rattle.decoding.proofs.reading_lemmas.NearWords.{near_only}
use Rattle.decoding.proofs.reading_lemmas.Realised.{minimal_pair}
use Rattle.decoding.proofs.reading_lemmas.Decoding.{left, decoded}

-- two outcomes are the same
module _ (A : Arithmetic) (code : Code) (cells : List Cell) (before : List ℕ) where
  pub same : (after other : List ℕ) (r s : Result Counts ReadRefusal) → Reading A code cells before after r → Reading A code cells before other s → (other ≡ after) × (s ≡ r)
  same after other (Ok a) (Ok b) h k =
      let equal = h.2 other k.1 in
      (equal, ap₂ (λ (w n : ℕ). Ok (record { wrong = w; blank = n })) (k.3 ∙ ap (wrong cells) equal ∙ sym h.3) (k.4 ∙ sym h.4))
  same after other (Ok a) (Err WrongLength) h k = absurd (k.1 h.0)
  same after other (Ok a) (Err TooBlank) h k = absurd (let close = h.1.close in let most = k.2 in omega arith)
  same after other (Ok a) (Err Lost) h k = absurd (k.3 after h.1)
  same after other (Err WrongLength) (Ok b) h k = absurd (h.1 k.0)
  same after other (Err WrongLength) (Err WrongLength) h k = (k.2 ∙ sym h.2, refl)
  same after other (Err WrongLength) (Err TooBlank) h k = absurd (h.1 k.1)
  same after other (Err WrongLength) (Err Lost) h k = absurd (h.1 k.1)
  same after other (Err TooBlank) (Ok b) h k = absurd (let close = k.1.close in let most = h.2 in omega arith)
  same after other (Err TooBlank) (Err WrongLength) h k = absurd (k.1 h.1)
  same after other (Err TooBlank) (Err TooBlank) h k = (k.3 ∙ sym h.3, refl)
  same after other (Err TooBlank) (Err Lost) h k = absurd (let few = k.2 in let most = h.2 in omega arith)
  same after other (Err Lost) (Ok b) h k = absurd (h.3 other k.1)
  same after other (Err Lost) (Err WrongLength) h k = absurd (k.1 h.1)
  same after other (Err Lost) (Err TooBlank) h k = absurd (let few = h.2 in let most = k.2 in omega arith)
  same after other (Err Lost) (Err Lost) h k = (k.4 ∙ sym h.4, refl)

-- what holds of all numbers below a bound is decided where each is
all_below? : (n : ℕ) (P : ℕ → Type 0) → ((j : ℕ) → Dec (P j)) → Dec ((j : ℕ) → j < n → P j)
all_below? zero P each = yes (λ j h. absurd (omega arith))
all_below? (suc n) P each = with_last (all_below? n P each) (each n)
  where
    with_last : Dec ((j : ℕ) → j < n → P j) → Dec (P n) → Dec ((j : ℕ) → j < suc n → P j)
    with_last (no some) last = no (λ all. some (λ j h. all j (omega arith)))
    with_last (yes all) (no last) = no (λ every. last (every n (omega arith)))
    with_last (yes all) (yes last) = yes (λ j h. elim (cases_eq j n) [ inl e ↦ subst P (sym e) last | inr other ↦ all j (omega arith) ])

passes? : (code : Code) (cells : List Cell) (word sums : List ℕ) → (r : Option ℕ) × Accepted code cells word sums r
passes? code cells word sums =
    go (all_below? (length word) (λ j. get_or word j 0 < code.letters) (λ j. dec_lt (get_or word j 0) code.letters))
    (all_below? (length sums) (λ k. get_or sums k 0 ≡ 0) (λ k. ℕ_discrete (get_or sums k 0) 0))
    (dec_lt (reach code) (2 * wrong cells word + blanks cells))
  where
    go : Dec ((j : ℕ) → j < length word → get_or word j 0 < code.letters) → Dec (AllZero sums) → Dec (reach code < 2 * wrong cells word + blanks cells) → (r : Option ℕ) × Accepted code cells word sums r
    go (no high) zeros far = (None, λ passes. high passes.lettered)
    go (yes below) (no other) far = (None, λ passes. other passes.zeros)
    go (yes below) (yes zeros) (yes far) = (None, λ passes. let close = passes.close in omega arith)
    go (yes below) (yes zeros) (no near) = (Some (wrong cells word), (record { lettered = below; zeros = zeros; close = omega arith }, refl))

module _ (m : Meaning) (code : Code) (checked : Checked m code) (cells : List Cell) (long : length cells ≡ length code.locators) (lettered : Lettered code.letters cells) (before : List ℕ) where
  abbrev A : Arithmetic
  A = m.arithmetic

  abbrev Some_outcome : Type 0
  Some_outcome = (after : List ℕ) × (r : Result Counts ReadRefusal) × Reading A code cells before after r

  from_decoded : length before ≡ length code.locators → blanks cells ≤ reach code → (word : List ℕ) (r : Option ℕ) → Decoded A code cells word r → Some_outcome
  from_decoded room few word (Some count) found =
      (word, Ok (record { wrong = count; blank = blanks cells }), (room, found.0, (λ other near. near_only m code checked cells long lettered other word near found.0), found.1, refl))
  from_decoded room few word None none = (before, Err Lost, (refl, room, few, none, refl))

  found : blanks cells ≤ reach code → (word : List ℕ) × (r : Option ℕ) × Decoded A code cells word r
  found few =
      let T = modified_syndromes A code cells in
      let last = state_after A T (length T) in
      let d = last.degree in
      let f = last.pair.f.coeffs in
      let locates : Locates A code cells d f = (last.pair.w.coeffs, minimal_pair checked cells) in
      let rest = left m code checked cells long lettered few d f locates in
      let word = filled m code rest (syndromes A code rest) in
      let accepted = passes? code cells word (syndromes A code (noted word)) in
      (word, accepted.0, decoded m code checked cells long lettered few d f locates word refl (syndromes A code (noted word)) refl accepted.0 accepted.1)

  outcome : Some_outcome
  outcome =
      elim (cases_eq (length before) (length code.locators)) [
        | inr other ↦ (before, Err WrongLength, (refl, other, refl))
        | inl room ↦ elim (cases_lt (reach code) (blanks cells)) [
          | inl many ↦ (before, Err TooBlank, (refl, room, many, refl))
          | inr few ↦ (let (word, r, is) = found few in from_decoded room few word r is)
        ]
      ]

pub one_reading : OneReading
one_reading m code checked cells long lettered before =
    let (after, r, is) = outcome m code checked cells long lettered before in
    (after, r, is, λ other s reads. same m.arithmetic code cells before after other r s is reads)
