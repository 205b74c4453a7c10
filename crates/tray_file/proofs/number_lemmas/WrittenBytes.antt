-- The bytes that the number writer puts into a buffer.
use Rattle.std.proofs.Common.{◌≡◌, ℕ, ◌+◌, ◌/◌, ◌%◌, ◌<◌, List, [], ◌∷◌, ◌++◌, length, get_or, take, drop, set, sym, refl, ap, ◌∙◌, ⊎_elim, add-zero, arith}
use Rattle.std.proofs.lemmas.List.{append_assoc, take-append-drop, length-append, length-take-le, drop_more, set_at}
use Rattle.tray_file.specs.number.Numbers.{number_bytes}
use Rattle.tray_file.specs.number.NumberWriting.{put_at}
use Rattle.tray_file.proofs.number_lemmas.NumberBytes.{OneByte, TwoBytes, ThreeBytes, bytes_of}

-- nothing put in
pub put_none : (start : ℕ) (buffer : List ℕ) → put_at start [] buffer ≡ buffer
put_none start buffer = ap (λ i. take start buffer ++ drop i buffer) (add-zero start) ∙ take-append-drop start buffer

-- one byte more
pub put_more : (start : ℕ) (bytes buffer : List ℕ) (byte place : ℕ) → place ≡ start + length bytes → place < length buffer →
    set (put_at start bytes buffer) place byte ≡ put_at start (bytes ++ byte ∷ []) buffer
put_more start bytes buffer byte place is within =
    let front = take start buffer ++ bytes in
    let rest = drop (start + length bytes) buffer in
    let room : start + length bytes < length buffer = omega arith in
    let long : length front ≡ place = length-append (take start buffer) bytes ∙ ap (λ n. n + length bytes) (length-take-le start buffer (omega arith)) ∙ sym is in
    let more : length bytes + 1 ≡ length (bytes ++ byte ∷ []) = sym (length-append bytes (byte ∷ [])) in
    let next : start + length bytes + 1 ≡ start + length (bytes ++ byte ∷ []) = omega arith in
    let after = drop (start + length bytes + 1) buffer in
    ap (λ (l : List ℕ). set l place byte) (sym (append_assoc (take start buffer) bytes rest) ∙ ap (λ (l : List ℕ). front ++ l) (drop_more buffer (start + length bytes) 0 room))
    ∙ set_at front (get_or buffer (start + length bytes) 0) after byte place long
    ∙ append_assoc (take start buffer) bytes (byte ∷ after)
    ∙ ap (λ (l : List ℕ). take start buffer ++ l) (sym (append_assoc bytes (byte ∷ []) after))
    ∙ ap (λ i. take start buffer ++ ((bytes ++ byte ∷ []) ++ drop i buffer)) next

pub put_one : (start : ℕ) (buffer : List ℕ) (a : ℕ) → start < length buffer → set buffer start a ≡ put_at start (a ∷ []) buffer
put_one start buffer a within =
    ap (λ (l : List ℕ). set l start a) (sym (put_none start buffer)) ∙ put_more start [] buffer a start (sym (add-zero start)) within

pub put_two : (start : ℕ) (buffer : List ℕ) (a b : ℕ) → start + 1 < length buffer →
    set (set buffer start a) (start + 1) b ≡ put_at start (a ∷ b ∷ []) buffer
put_two start buffer a b within =
    ap (λ (l : List ℕ). set l (start + 1) b) (put_one start buffer a (omega arith)) ∙ put_more start (a ∷ []) buffer b (start + 1) refl within

pub put_three : (start : ℕ) (buffer : List ℕ) (a b d : ℕ) → start + 2 < length buffer →
    set (set (set buffer start a) (start + 1) b) (start + 2) d ≡ put_at start (a ∷ b ∷ d ∷ []) buffer
put_three start buffer a b d within =
    ap (λ (l : List ℕ). set l (start + 2) d) (put_two start buffer a b (omega arith)) ∙ put_more start (a ∷ b ∷ []) buffer d (start + 2) refl within

-- a number of so many bytes is so large
pub is_one : (v : ℕ) → length (number_bytes v) ≡ 1 → OneByte v
is_one v long =
    ⊎_elim (λ o. o) (⊎_elim (λ o. absurd (omega (arith, ap length o.is))) (λ o. absurd (omega (arith, ap length o.is)))) (bytes_of v)

pub is_two : (v : ℕ) → length (number_bytes v) ≡ 2 → TwoBytes v (v % 128) (v / 128)
is_two v long =
    ⊎_elim (λ o. absurd (omega (arith, ap length o.is))) (⊎_elim (λ o. o) (λ o. absurd (omega (arith, ap length o.is)))) (bytes_of v)

pub is_three : (v : ℕ) → (length (number_bytes v) ≡ 1 → ⊥) → (length (number_bytes v) ≡ 2 → ⊥) →
    ThreeBytes v (v % 128) (v / 128 % 128) (v / 128 / 128) × (length (number_bytes v) ≡ 3)
is_three v one two =
    ⊎_elim (λ o. absurd (one (ap length o.is))) (⊎_elim (λ o. absurd (two (ap length o.is))) (λ o. (o, ap length o.is))) (bytes_of v)
