-- The bytes of a text, written one after another.
use Rattle.std.proofs.Common.{◌≡◌, ℕ, ◌+◌, ◌*◌, ◌<◌, ◌≤◌, List, [], ◌∷◌, ◌++◌, length, get_or, take, drop, set, refl, sym, ap, ap₂, ◌∙◌, append_assoc, append-nil, length-drop, arith}
use Rattle.std.proofs.lemmas.List.{drop_more, take_more_set, take_all}
use Rattle.tray_cases.specs.Hexadecimal.{hexadecimal_digit, hexadecimal_bytes}

-- less than two digits make no byte
pub decoded_none : (digits : List ℕ) → length digits < 2 → hexadecimal_bytes digits ≡ []
decoded_none [] few = refl
decoded_none (half ∷ []) few = refl
decoded_none (high ∷ low ∷ rest) few = absurd (omega arith)

-- the byte of two digits
abbrev pub byte_at : List ℕ → ℕ → ℕ
byte_at digits j = hexadecimal_digit (get_or digits j 0) * 16 + hexadecimal_digit (get_or digits (j + 1) 0)

two_digits : (digits : List ℕ) (j : ℕ) → j + 1 < length digits → hexadecimal_bytes (drop j digits) ≡ byte_at digits j ∷ hexadecimal_bytes (drop (j + 1 + 1) digits)
two_digits digits j within =
    ap hexadecimal_bytes (drop_more digits j 0 (omega arith) ∙ ap (λ rest. get_or digits j 0 ∷ rest) (drop_more digits (j + 1) 0 within))

-- one byte more is written
pub decoded_more : (digits bytes : List ℕ) (i b : ℕ) → i < length bytes → 2 * i + 1 < length digits → b ≡ byte_at digits (2 * i)
    → take i bytes ++ hexadecimal_bytes (drop (2 * i) digits) ≡ hexadecimal_bytes digits
    → take (i + 1) (set bytes i b) ++ hexadecimal_bytes (drop (2 * (i + 1)) digits) ≡ hexadecimal_bytes digits
decoded_more digits bytes i b here within is so_far =
    let next : 2 * (i + 1) ≡ 2 * i + 1 + 1 = omega arith in
    ap₂ (λ (front rest : List ℕ). front ++ rest) (take_more_set bytes i b here ∙ ap (λ x. take i bytes ++ x ∷ []) is) (ap (λ k. hexadecimal_bytes (drop k digits)) next)
    ∙ append_assoc (take i bytes) (byte_at digits (2 * i) ∷ []) (hexadecimal_bytes (drop (2 * i + 1 + 1) digits))
    ∙ ap (λ rest. take i bytes ++ rest) (sym (two_digits digits (2 * i) within))
    ∙ so_far

-- all bytes are written, and at most half a byte is left
pub decoded_all : (digits bytes : List ℕ) (i : ℕ) → length bytes ≤ i → length digits < 2 * i + 2
    → take i bytes ++ hexadecimal_bytes (drop (2 * i) digits) ≡ hexadecimal_bytes digits → bytes ≡ hexadecimal_bytes digits
decoded_all digits bytes i all few is =
    let rest : hexadecimal_bytes (drop (2 * i) digits) ≡ [] = decoded_none (drop (2 * i) digits) (omega (arith, length-drop (2 * i) digits)) in
    sym (take_all i bytes all) ∙ sym (append-nil (take i bytes)) ∙ ap (λ xs. take i bytes ++ xs) (sym rest) ∙ is
