-- The rule for a bad number, by the bytes that stand first.
use Rattle.std.proofs.Common.{◌≡◌, ℕ, ◌<◌, ◌≤◌, List, [], ◌∷◌, take, refl, inl, inr, ⊎_elim, arith}
use Rattle.std.proofs.lemmas.Bool.{cases_lt, cases_eq}
use Rattle.std.specs.Prelude.{All}
use Rattle.tray_file.specs.number.Numbers.{largest_number, worth}
use Rattle.tray_file.specs.number.NumberReading.{NoNumber}
use Rattle.tray_file.specs.number.BadNumbers.{ThirdGoesOn, LastIsZero, AboveLargest, BadNumberFirst, BadNumberRule}
use Rattle.tray_file.proofs.number_lemmas.NumberBytes.{zero_second, bad_third}
use Rattle.tray_file.proofs.number_lemmas.Worth.{worth_three}
use Rattle.tray_file.proofs.number_lemmas.ReadBytes.{read_one, read_two, read_three, cut_none, cut_one, cut_two}

abbrev AreBytes : List ℕ → Type 0
AreBytes bytes = All (λ byte. byte < 256) bytes

-- no number stands first in three bytes or more
third_bad : (a b d : ℕ) (rest : List ℕ) → AreBytes (a ∷ b ∷ d ∷ rest) → 128 ≤ a → 128 ≤ b → NoNumber (a ∷ b ∷ d ∷ rest) → BadNumberFirst (a ∷ b ∷ d ∷ rest)
third_bad a b d rest below ha hb bad =
    let bytes = a ∷ b ∷ d ∷ rest in
    let first : a < 256 = below 0 0 (omega arith) in
    let second : b < 256 = below 1 0 (omega arith) in
    ⊎_elim
    (λ (zero : d ≡ 0). inr (inl (inr ((omega arith, ha), (omega arith, hb), (omega arith, zero)))))
    (λ (more : d ≡ 0 → ⊥). ⊎_elim
    (λ (low : d < 128). ⊎_elim
    (λ (large : largest_number < worth (take 3 bytes)). inr (inr ((omega arith, ha), (omega arith, hb), (omega arith, low), large)))
    (λ (small : worth (take 3 bytes) ≤ largest_number).
    let is = worth_three a b d rest ha first hb second low in
    absurd (bad.none _ (read_three bytes 0 (omega arith) ha first hb second (omega arith) (omega arith)).0))
    (cases_lt largest_number (worth (take 3 bytes))))
    (λ (high : 128 ≤ d). inl ((omega arith, ha), (omega arith, hb), (omega arith, high)))
    (cases_lt d 128))
    (cases_eq d 0)

second_bad : (a b : ℕ) (rest : List ℕ) → AreBytes (a ∷ b ∷ rest) → 128 ≤ a → NoNumber (a ∷ b ∷ rest) → BadNumberFirst (a ∷ b ∷ rest)
second_bad a b [] below ha bad =
    let bytes = a ∷ b ∷ [] in
    let first : a < 256 = below 0 0 (omega arith) in
    ⊎_elim
    (λ (zero : b ≡ 0). inr (inl (inl ((omega arith, ha), (omega arith, zero)))))
    (λ (more : b ≡ 0 → ⊥). ⊎_elim
    (λ (low : b < 128). absurd (bad.none _ (read_two bytes 0 (omega arith) ha first (omega arith) low).0))
    (λ (high : 128 ≤ b). absurd (bad.whole (cut_two bytes 0 (omega arith) (omega arith) ha high)))
    (cases_lt b 128))
    (cases_eq b 0)
second_bad a b (d ∷ rest) below ha bad =
    let bytes = a ∷ b ∷ d ∷ rest in
    let first : a < 256 = below 0 0 (omega arith) in
    ⊎_elim
    (λ (zero : b ≡ 0). inr (inl (inl ((omega arith, ha), (omega arith, zero)))))
    (λ (more : b ≡ 0 → ⊥). ⊎_elim
    (λ (low : b < 128). absurd (bad.none _ (read_two bytes 0 (omega arith) ha first (omega arith) low).0))
    (λ (high : 128 ≤ b). third_bad a b d rest below ha high bad)
    (cases_lt b 128))
    (cases_eq b 0)

bad_number_first : (bytes : List ℕ) → AreBytes bytes → NoNumber bytes → BadNumberFirst bytes
bad_number_first [] below bad = absurd (bad.whole (cut_none [] 0 (omega arith)))
bad_number_first (a ∷ []) below bad =
    ⊎_elim
    (λ (low : a < 128). absurd (bad.none _ (read_one (a ∷ []) 0 (omega arith) low).0))
    (λ (high : 128 ≤ a). absurd (bad.whole (cut_one (a ∷ []) 0 (omega arith) (omega arith) high)))
    (cases_lt a 128)
bad_number_first (a ∷ b ∷ rest) below bad =
    ⊎_elim
    (λ (low : a < 128). absurd (bad.none _ (read_one (a ∷ b ∷ rest) 0 (omega arith) low).0))
    (λ (high : 128 ≤ a). second_bad a b rest below high bad)
    (cases_lt a 128)

-- where a bad number stands first, no number does
third_goes_on : (bytes : List ℕ) → ThirdGoesOn bytes → NoNumber bytes
third_goes_on bytes ((_, x), (_, y), (long, z)) = bad_third bytes long x y (λ v small t. omega arith)

last_is_zero : (bytes : List ℕ) → LastIsZero bytes → NoNumber bytes
last_is_zero bytes (inl ((_, x), (long, none))) = zero_second bytes long x none
last_is_zero bytes (inr ((_, x), (_, y), (long, none))) = bad_third bytes long x y (λ v small t. omega arith)

above_largest : (bytes : List ℕ) → AreBytes bytes → AboveLargest bytes → NoNumber bytes
above_largest [] below ((short, x), y, z, large) = absurd (omega arith)
above_largest (a ∷ []) below (x, (short, y), z, large) = absurd (omega arith)
above_largest (a ∷ b ∷ []) below (x, y, (short, z), large) = absurd (omega arith)
above_largest (a ∷ b ∷ d ∷ rest) below ((_, x), (_, y), (long, z), large) =
    let is = worth_three a b d rest x (below 0 0 (omega arith)) y (below 1 0 (omega arith)) z in
    bad_third (a ∷ b ∷ d ∷ rest) long x y (λ v small t. omega arith)

is_no_number : (bytes : List ℕ) → AreBytes bytes → BadNumberFirst bytes → NoNumber bytes
is_no_number bytes below (inl goes_on) = third_goes_on bytes goes_on
is_no_number bytes below (inr (inl none)) = last_is_zero bytes none
is_no_number bytes below (inr (inr large)) = above_largest bytes below large

pub bad_number_rule : BadNumberRule
bad_number_rule bytes below = (λ refused. bad_number_first bytes below refused.1, λ is. (refl, is_no_number bytes below is))
