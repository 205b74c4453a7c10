-- What bytes are worth.
use Rattle.std.proofs.Common.{◌≡◌, ℕ, suc, ◌+◌, ◌*◌, ◌^◌, ◌%◌, ◌<◌, ◌≤◌, List, [], ◌∷◌, take, sym, ap, ◌∙◌, ⊎_elim, pow-suc, mul-zero, mul_comm, mul_assoc, mul-add, arith}
use Rattle.tray_file.specs.number.Numbers.{worth}
use Rattle.tray_file.specs.number.BadNumbers.{group_sum}
use Rattle.tray_file.specs.number.NumberWriting.{WrittenWorth}
use Rattle.tray_file.proofs.number_lemmas.NumberBytes.{bytes_of}

-- the value of three bytes of which the last ends a number
pub worth_three : (a b d : ℕ) (rest : List ℕ) → 128 ≤ a → a < 256 → 128 ≤ b → b < 256 → d < 128 →
    worth (take 3 (a ∷ b ∷ d ∷ rest)) + 16512 ≡ a + 128 * b + 16384 * d
worth_three a b d rest ha la hb lb ld = omega arith

pub written_worth : WrittenWorth
written_worth v small =
    ⊎_elim (λ o. ap worth o.is ∙ omega (arith, o.low))
    (⊎_elim (λ t. ap worth t.is ∙ omega (arith, t.last)) (λ t. ap worth t.is ∙ omega (arith, small)))
    (bytes_of v)

-- groups from a place on are worth a power of 128 more
pub sum_from : (place : ℕ) (bytes : List ℕ) → group_sum place bytes ≡ 128 ^ place * worth bytes
sum_from place [] = sym (mul-zero (128 ^ place))
sum_from place (byte ∷ rest) =
    let later = sum_from (suc place) rest in
    let power : 128 ^ suc place ≡ 128 ^ place * 128 = pow-suc 128 place in
    ap (λ n. byte % 128 * 128 ^ place + n) (later ∙ ap (λ n. n * worth rest) power ∙ mul_assoc (128 ^ place) 128 (worth rest))
    ∙ ap (λ n. n + 128 ^ place * (128 * worth rest)) (mul_comm (byte % 128) (128 ^ place))
    ∙ sym (mul-add (128 ^ place) (byte % 128) (128 * worth rest))
