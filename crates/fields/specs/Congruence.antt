-- Lemmas: proved, nothing here is to be believed.
-- Remainders of whole numbers: products, and what may be taken away on both sides.
use Rattle.std.specs.Prelude.{◌≡◌, ℕ, ◌+◌, ◌-◌, ◌*◌, ◌/◌, ◌%◌, ◌<◌}
use Rattle.std.proofs.Common.{sym, ◌∙◌, ap, add_assoc, add-zero, mul_comm, mul_assoc, add-mul, mod-lt, div-add-mod', arith}
use Rattle.std.proofs.Math.Nat.{mod_self, mod-add-mod, add-mod-mod, mul-add-mod_self_right}

pub mul_mod_left : (a b p : ℕ) → (a % p * b) % p ≡ (a * b) % p
mul_mod_left a b p =
    let split : a * b ≡ (a / p * b) * p + a % p * b =
    ap (λ x. x * b) (sym (div-add-mod' a p))
    ∙ add-mul (a / p * p) (a % p) b
    ∙ ap (λ x. x + a % p * b)
    (mul_assoc (a / p) p b ∙ ap (λ x. a / p * x) (mul_comm p b) ∙ sym (mul_assoc (a / p) b p))
    in
    sym (ap (λ x. x % p) split ∙ mul-add-mod_self_right (a / p * b) p (a % p * b))

pub mul_mod_right : (a b p : ℕ) → (a * (b % p)) % p ≡ (a * b) % p
mul_mod_right a b p =
    ap (λ x. x % p) (mul_comm a (b % p)) ∙ mul_mod_left b a p ∙ ap (λ x. x % p) (mul_comm b a)

-- c and p − c % p make a multiple of p
opposite : (c p : ℕ) → 0 < p → (c + (p - c % p)) % p ≡ 0
opposite c p positive =
    let small = mod-lt c positive in
    let whole : c % p + (p - c % p) ≡ p = omega arith in
    sym (mod-add-mod c p (p - c % p)) ∙ ap (λ x. x % p) whole ∙ mod_self p

-- x + (c + (p − c % p)) leaves what x leaves
unchanged : (x c p : ℕ) → 0 < p → (x + c + (p - c % p)) % p ≡ x % p
unchanged x c p positive =
    ap (λ y. y % p) (add_assoc x c (p - c % p))
    ∙ sym (add-mod-mod x (c + (p - c % p)) p)
    ∙ ap (λ y. (x + y) % p) (opposite c p positive)
    ∙ ap (λ y. y % p) (add-zero x)

pub mod_cancel : (x y c p : ℕ) → 0 < p → (x + c) % p ≡ (y + c) % p → x % p ≡ y % p
mod_cancel x y c p positive e =
    sym (unchanged x c p positive)
    ∙ sym (mod-add-mod (x + c) p (p - c % p))
    ∙ ap (λ z. (z + (p - c % p)) % p) e
    ∙ mod-add-mod (y + c) p (p - c % p)
    ∙ unchanged y c p positive
