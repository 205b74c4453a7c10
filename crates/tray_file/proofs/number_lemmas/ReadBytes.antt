-- What the bytes from a place on tell of the number that begins there.
use Rattle.std.proofs.Common.{◌≡◌, ℕ, ◌+◌, ◌-◌, ◌*◌, ◌<◌, ◌≤◌, List, [], ◌∷◌, ◌++◌, length, get_or, drop, Ok, Err, sym, refl, ap, ◌∙◌, subst, ⊎_elim, add-zero, arith}
use Rattle.std.proofs.lemmas.List.{drop_more, get_or-drop, length-drop}
use Rattle.std.proofs.lemmas.Bool.{cases_eq}
use Rattle.tray_file.specs.number.Numbers.{largest_number, number_bytes}
use Rattle.tray_file.specs.number.NumberReading.{StandsFirst, EndsInside, NoNumber}
use Rattle.tray_file.specs.number.NumberWriting.{ReadsBack}
use Rattle.tray_file.specs.declared.number.cause.NumberCause.TheVariants.{CutOff, BadNumber}
use Rattle.tray_file.proofs.number_lemmas.NumberBytes.{one_byte, two_bytes, three_bytes, stands, zero_second, bad_third, same_number, not_inside}

module _ (bytes : List ℕ) (start : ℕ) where
  abbrev s : List ℕ
  s = drop start bytes

  abbrev x : ℕ
  x = get_or bytes start 0

  abbrev y : ℕ
  y = get_or bytes (start + 1) 0

  abbrev z : ℕ
  z = get_or bytes (start + 2) 0

  byte_0 : get_or s 0 0 ≡ x
  byte_0 = get_or-drop start bytes 0 0 ∙ ap (λ i. get_or bytes i 0) (add-zero start)

  byte_1 : get_or s 1 0 ≡ y
  byte_1 = get_or-drop start bytes 1 0

  byte_2 : get_or s 2 0 ≡ z
  byte_2 = get_or-drop start bytes 2 0

  -- a number that is written in so many bytes stands first
  stood : (v n : ℕ) (front : List ℕ) → v ≤ largest_number → number_bytes v ≡ front → length front ≡ n → s ≡ front ++ drop (start + n) bytes →
      StandsFirst v s × (start + n ≡ start + length (number_bytes v))
  stood v n front small is long e =
      (stands v s (drop (start + n) bytes) small (e ∙ ap (λ (l : List ℕ). l ++ drop (start + n) bytes) (sym is)), ap (λ k. start + k) (sym long ∙ sym (ap length is)))

  pub read_one : start < length bytes → x < 128 → StandsFirst x s × (start + 1 ≡ start + length (number_bytes x))
  read_one within low = stood x 1 (x ∷ []) (omega arith) (one_byte x low).is refl (drop_more bytes start 0 within)

  pub read_two : start + 1 < length bytes → 128 ≤ x → x < 256 → 0 < y → y < 128 →
      StandsFirst (x - 128 + 128 * y) s × (start + 2 ≡ start + length (number_bytes (x - 128 + 128 * y)))
  read_two within high byte more low =
      let whole : 128 + (x - 128) ≡ x = omega arith in
      let next : start + 1 + 1 ≡ start + 2 = omega arith in
      stood (x - 128 + 128 * y) 2 (x ∷ y ∷ []) (omega arith)
      (two_bytes (x - 128) y (omega arith) more low ∙ ap (λ k. k ∷ y ∷ []) whole) refl
      (drop_more bytes start 0 (omega arith) ∙ ap (λ (l : List ℕ). x ∷ l) (drop_more bytes (start + 1) 0 within) ∙ ap (λ i. x ∷ y ∷ drop i bytes) next)

  pub read_three : start + 2 < length bytes → 128 ≤ x → x < 256 → 128 ≤ y → y < 256 → 0 < z → x - 128 + 128 * (y - 128 + 128 * z) ≤ largest_number →
      StandsFirst (x - 128 + 128 * (y - 128 + 128 * z)) s
      × (start + 3 ≡ start + length (number_bytes (x - 128 + 128 * (y - 128 + 128 * z))))
  read_three within high byte high-2 byte_2 more small =
      let whole : 128 + (x - 128) ≡ x = omega arith in
      let whole-2 : 128 + (y - 128) ≡ y = omega arith in
      let next : start + 1 + 1 ≡ start + 2 = omega arith in
      let last : start + 2 + 1 ≡ start + 3 = omega arith in
      stood (x - 128 + 128 * (y - 128 + 128 * z)) 3 (x ∷ y ∷ z ∷ []) small
      (three_bytes (x - 128) (y - 128) z (omega arith) (omega arith) more ∙ ap (λ k. k ∷ (128 + (y - 128)) ∷ z ∷ []) whole ∙ ap (λ k. x ∷ k ∷ z ∷ []) whole-2) refl
      (drop_more bytes start 0 (omega arith) ∙ ap (λ (l : List ℕ). x ∷ l) (drop_more bytes (start + 1) 0 (omega arith)) ∙ ap (λ i. x ∷ y ∷ drop i bytes) next
      ∙ ap (λ (l : List ℕ). x ∷ y ∷ l) (drop_more bytes (start + 2) 0 within) ∙ ap (λ i. x ∷ y ∷ z ∷ drop i bytes) last)

  -- the bytes end inside a number
  pub cut_none : length bytes ≤ start → EndsInside s
  cut_none end = let long = length-drop start bytes in record { few = omega arith; each = λ i h. absurd (omega arith) }

  pub cut_one : start < length bytes → length bytes ≤ start + 1 → 128 ≤ x → EndsInside s
  cut_one within end high =
      let long = length-drop start bytes in
      record {
        few = omega arith;
        each = λ i h. let zero-th : i ≡ 0 = omega arith in
            subst (λ k. 128 ≤ get_or s k 0) (sym zero-th) (omega (arith, byte_0));
      }

  pub cut_two : start + 1 < length bytes → length bytes ≤ start + 2 → 128 ≤ x → 128 ≤ y → EndsInside s
  cut_two within end high high-2 =
      let long = length-drop start bytes in
      record {
        few = omega arith;
        each = λ i h. ⊎_elim
            (λ zero-th. subst (λ k. 128 ≤ get_or s k 0) (sym zero-th) (omega (arith, byte_0)))
            (λ other. let one-th : i ≡ 1 = omega arith in subst (λ k. 128 ≤ get_or s k 0) (sym one-th) (omega (arith, byte_1)))
            (cases_eq i 0);
      }

  -- no number stands first
  pub zero_last : start + 1 < length bytes → 128 ≤ x → y ≡ 0 → NoNumber s
  zero_last within high none =
      let long = length-drop start bytes in
      zero_second s (omega arith) (omega (arith, byte_0)) (byte_1 ∙ none)

  pub third_zero : start + 2 < length bytes → 128 ≤ x → 128 ≤ y → z ≡ 0 → NoNumber s
  third_zero within high high-2 bad =
      let long = length-drop start bytes in
      bad_third s (omega arith) (omega (arith, byte_0)) (omega (arith, byte_1)) (λ v small t. omega (arith, byte_2))

  pub third_large : start + 2 < length bytes → 128 ≤ x → 128 ≤ y → largest_number < x - 128 + 128 * (y - 128 + 128 * z) → NoNumber s
  third_large within high high-2 large =
      let long = length-drop start bytes in
      bad_third s (omega arith) (omega (arith, byte_0)) (omega (arith, byte_1)) (λ v small t. omega (arith, byte_0, byte_1, byte_2))

-- a written number reads back
pub reads_back : ReadsBack
reads_back value start rest (Ok read) small (first, end) =
    let written = stands value (number_bytes value ++ rest) rest small refl in
    let same = same_number read.value value (number_bytes value ++ rest) first written in
    ap (λ v. Ok (record { value = v; end = read.end })) same ∙ ap (λ e. Ok (record { value = value; end = e })) (end ∙ ap (λ v. start + length (number_bytes v)) same)
reads_back value start rest (Err CutOff) small (number, inside) =
    absurd (not_inside value (number_bytes value ++ rest) (stands value (number_bytes value ++ rest) rest small refl) inside)
reads_back value start rest (Err BadNumber) small (number, bad) =
    absurd (bad.none value (stands value (number_bytes value ++ rest) rest small refl))
