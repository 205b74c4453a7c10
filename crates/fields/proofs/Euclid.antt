-- Euclid's algorithm modulo p: its step, and where it ends.
use Rattle.std.proofs.Common.{◌≡◌, ℕ, ◌+◌, ◌-◌, ◌*◌, ◌%◌, ◌<◌, ◌≤◌, sym, ap, ◌∙◌, ⊎_elim, add-zero, mod-lt, mod-eq_of_lt, mul_assoc, mul_comm, add-mul, arith}
use native.Mathlib.Nat.{mod_self, zero-mod, mod-add-mod, add-mod-mod, mod-eq-zero_of_dvd, dvd_of_mod-eq-zero, dvd-mod_iff, le_of_dvd}
use Rattle.std.proofs.lemmas.Bool.{cases_eq}
use Rattle.fields.specs.Modulo.{Prime}
use Rattle.fields.specs.Congruence.{mul_mod_left, mul_mod_right, mod_cancel}

-- what divides both u and v divides p and a
abbrev pub Common : ℕ → ℕ → ℕ → ℕ → Type 0
Common p a u v = (d : ℕ) → u % d ≡ 0 → v % d ≡ 0 → (p % d ≡ 0) × (a % d ≡ 0)

pub common_step : (p a u v : ℕ) → Common p a u v → Common p a v (u % v)
common_step p a u v common d at-v at_rest =
    common d (mod-eq-zero_of_dvd d ((dvd-mod_iff d (dvd_of_mod-eq-zero d at-v)).0 (dvd_of_mod-eq-zero d at_rest))) at-v

-- the last divisor divides p and a, and p is prime, so it is 1
pub last_is_one : (p a u : ℕ) → Prime p → 0 < a → a < p → 0 < u → Common p a u 0 → u ≡ 1
last_is_one p a u prime positive element pu common = ⊎_elim (λ is. is) larger (cases_eq u 1)
  where
    larger : (u ≡ 1 → ⊥) → u ≡ 1
    larger other =
        let divides = common u (mod_self u) (zero-mod u) in
        let small : u ≤ a = le_of_dvd positive (dvd_of_mod-eq-zero u divides.1) in
        absurd (prime.no_divisor u (omega arith) (omega arith) divides.0)

pub last_inverts : (p a g u : ℕ) → Prime p → u ≡ 1 → u % p ≡ (g * a) % p → (a * g) % p ≡ 1
last_inverts p a g u prime one at-u = ap (λ x. x % p) (mul_comm a g) ∙ sym at-u ∙ ap (λ x. x % p) one ∙ mod-eq_of_lt prime.two

-- Where u is g × a and v is h × a modulo p, what is left of u after taking v q times is (g − q × h) × a.
pub euclid_step : (p a u v g h q r : ℕ) → 0 < p → u ≡ q * v + r → u % p ≡ (g * a) % p → v % p ≡ (h * a) % p → r % p ≡ ((g + (p - q * h % p)) % p * a) % p
euclid_step p a u v g h q r positive split at-u at-v =
    let small = mod-lt (q * h) positive in
    let n = g + (p - q * h % p) in
    let taken : (q * v) % p ≡ (q * h * a) % p = sym (mul_mod_right q v p) ∙ ap (λ x. (q * x) % p) at-v ∙ mul_mod_right q (h * a) p ∙ ap (λ x. x % p) (sym (mul_assoc q h a)) in
    let back : (n % p + q * h % p) % p ≡ g % p =
    mod-add-mod n p (q * h % p)
    ∙ ap (λ x. x % p) (regroup g (q * h % p) (omega arith))
    ∙ sym (add-mod-mod g p p) ∙ ap (λ x. (g + x) % p) (mod_self p) ∙ ap (λ x. x % p) (add-zero g) in
    let left : (r + q * v) % p ≡ (g * a) % p = ap (λ x. x % p) (turn r (q * v) ∙ sym split) ∙ at-u in
    let right : (n % p * a + q * v) % p ≡ (g * a) % p =
    sym (add-mod-mod (n % p * a) (q * v) p)
    ∙ ap (λ x. (n % p * a + x) % p) (taken ∙ sym (mul_mod_left (q * h) a p))
    ∙ add-mod-mod (n % p * a) (q * h % p * a) p
    ∙ ap (λ x. x % p) (sym (add-mul (n % p) (q * h % p) a))
    ∙ sym (mul_mod_left (n % p + q * h % p) a p)
    ∙ ap (λ x. (x * a) % p) back
    ∙ mul_mod_left g a p in
    mod_cancel r (n % p * a) (q * v) p positive (left ∙ sym right)
  where
    turn : (x y : ℕ) → x + y ≡ y + x
    turn x y = omega arith

    regroup : (x y : ℕ) → y ≤ p → x + (p - y) + y ≡ x + p
    regroup x y le = omega arith
