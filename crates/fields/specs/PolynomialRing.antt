-- Lemmas: proved, nothing here is to be believed.
-- With exclusive or as the sum, the carry-less product makes the numbers a commutative ring.
use Rattle.std.specs.Prelude.{◌≡◌, ℕ, zero, suc, ◌*◌, ◌/◌, ◌%◌, ◌^◌, ◌<◌, ◌≤◌, bit_xor, refl}
use Rattle.std.proofs.Common.{sym, ap, ap₂, ◌∙◌, ⊎_elim, arith, add-zero, mul-zero, zero-mul, one-mul, mul-one, mul_assoc, pow-suc, div-one, div-le_self, div-add-mod', mod-lt, pow_mono}
use Rattle.std.proofs.Math.Nat.{pow-succ', two-pow-succ, div-div-eq-div-mul, div-eq_of_lt, le-suc_iff, le-suc}
use Rattle.std.specs.Int.Bits.{xor_assoc, xor_self, xor_zero_r, xor_shifted}
use Rattle.std.proofs.lemmas.Nat.{xor_comm, xor_block}
use Rattle.std.proofs.Math.Arith.{bin_ind, le-zero}
use Rattle.fields.specs.CarrylessProduct.{bit, xor_sum, ◌⊗◌}

pub xor_left_comm : (a b c : ℕ) → bit_xor a (bit_xor b c) ≡ bit_xor b (bit_xor a c)
xor_left_comm a b c =
    sym (xor_assoc a b c) ∙ ap (λ (x : ℕ). bit_xor x c) (xor_comm a b) ∙ xor_assoc b a c

pub xor_cancel : (a b : ℕ) → bit_xor a (bit_xor a b) ≡ b
xor_cancel a b = sym (xor_assoc a a b) ∙ ap (λ (x : ℕ). bit_xor x b) (xor_self a)

pub ruleset xor_laws = (xor_assoc, xor_comm, xor_left_comm, xor_self, xor_cancel, xor_zero_r)

pub interchange : (x y z w : ℕ)
    → bit_xor (bit_xor x y) (bit_xor z w) ≡ bit_xor (bit_xor x z) (bit_xor y w)
interchange x y z w = simp xor_laws

pub xor_double : (a b : ℕ) → bit_xor (a * 2) (b * 2) ≡ bit_xor a b * 2
xor_double a b =
    ap₂ bit_xor (sym (add-zero (a * 2))) (sym (add-zero (b * 2))) ∙ xor_block 1 a b 0 0
    (omega arith) (omega arith) ∙ add-zero (bit_xor a b * 2)

-- ---- the lowest coefficient taken apart from the others

below_power : (n : ℕ) → n < 2 ^ n
below_power zero = omega arith
below_power (suc n) = omega (arith, below_power n, two-pow-succ n)

no_bit : (a i : ℕ) → a ≤ i → bit a i ≡ 0
no_bit a i h = ap (λ (x : ℕ). x % 2) (div-eq_of_lt (omega (arith, below_power a, pow_mono h)))

front : (n : ℕ) (f : ℕ → ℕ) → xor_sum (suc n) f ≡ bit_xor (f 0) (xor_sum n (λ i. f (suc i)))
front zero f = sym (xor_zero_r (f 0))
front (suc n) f =
    ap (λ (x : ℕ). bit_xor x (f (suc n))) (front n f) ∙ xor_assoc (f 0) (xor_sum n (λ i. f (suc i)))
    (f (suc n))

-- terms that are 0 can be left out at the end
shorter : (m n : ℕ) (f : ℕ → ℕ) → ((i : ℕ) → n ≤ i → f i ≡ 0) → n ≤ m → xor_sum m f ≡ xor_sum n f
shorter zero n f z h = ap (λ (x : ℕ). xor_sum x f) (sym (le-zero h))
shorter (suc m) n f z h =
    ⊎_elim (λ k. ap (bit_xor (xor_sum m f)) (z m k) ∙ xor_zero_r (xor_sum m f) ∙ shorter m n f z k)
    (λ e. ap (λ (x : ℕ). xor_sum x f) (sym e)) (le-suc_iff.0 h)

doubled : (n : ℕ) (f g : ℕ → ℕ) → ((i : ℕ) → f i ≡ g i * 2) → xor_sum n f ≡ xor_sum n g * 2
doubled zero f g h = refl
doubled (suc n) f g h = ap₂ bit_xor (doubled n f g h) (h n) ∙ xor_double (xor_sum n g) (g n)

pub product_step : (a b : ℕ) → a ⊗ b ≡ bit_xor (a % 2 * b) ((a / 2) ⊗ b * 2)
unfolding ◌⊗◌
product_step a b =
    sym (shorter (suc a) a (term a) (no_term a) (le-suc a)) ∙ front a (term a)
    ∙ ap₂ bit_xor (simp (div-one, mul-one))
    (doubled a (λ i. term a (suc i)) (term (a / 2)) next ∙ ap (λ (x : ℕ). x * 2)
    (shorter a (a / 2) (term (a / 2)) (no_term (a / 2)) (div-le_self a 2)))
  where
    term : ℕ → ℕ → ℕ
    term c i = bit c i * (b * 2 ^ i)

    no_term : (c i : ℕ) → c ≤ i → term c i ≡ 0
    no_term c i h = ap (λ (x : ℕ). x * (b * 2 ^ i)) (no_bit c i h) ∙ zero-mul (b * 2 ^ i)

    next : (i : ℕ) → term a (suc i) ≡ term (a / 2) i * 2
    next i =
        ap₂ ◌*◌ (ap (λ (x : ℕ). x % 2)
        (ap (λ (x : ℕ). a / x) (pow-succ' 2 i) ∙ sym (div-div-eq-div-mul a 2 (2 ^ i))))
        (ap (λ (x : ℕ). b * x) (pow-suc 2 i)) ∙ simp mul_assoc

-- the same, with the two parts rewritten
parts : {x y : ℕ} (a b : ℕ) → a % 2 * b ≡ x → a / 2 ⊗ b ≡ y → a ⊗ b ≡ bit_xor x (y * 2)
parts a b e h = product_step a b ∙ ap₂ (λ (x y : ℕ). bit_xor x (y * 2)) e h

pub low_and_rest : (a : ℕ) → bit_xor (a % 2) (a / 2 * 2) ≡ a
low_and_rest a =
    xor_comm (a % 2) (a / 2 * 2) ∙ xor_shifted (a / 2) 1 (a % 2) (mod-lt a (omega arith)) ∙
    div-add-mod' a 2

-- ---- the laws, by induction on the bits of the first factor

pub zero_product : (b : ℕ) → 0 ⊗ b ≡ 0
unfolding ◌⊗◌
zero_product b = refl

pub one_product : (b : ℕ) → 1 ⊗ b ≡ b
unfolding ◌⊗◌
one_product b = simp (one-mul, mul-one)

pub product_zero : (a : ℕ) → a ⊗ 0 ≡ 0
product_zero = bin_ind (λ a. a ⊗ 0 ≡ 0) (zero_product 0) (λ a h. parts a 0 (mul-zero (a % 2)) h)

pub product_one : (a : ℕ) → a ⊗ 1 ≡ a
product_one =
    bin_ind (λ a. a ⊗ 1 ≡ a) (zero_product 1)
    (λ a h. parts a 1 (mul-one (a % 2)) h ∙ low_and_rest a)

pub product_double : (a b : ℕ) → a ⊗ (b * 2) ≡ a ⊗ b * 2
product_double a b =
    bin_ind (λ a. a ⊗ (b * 2) ≡ a ⊗ b * 2)
    (zero_product (b * 2) ∙ ap (λ (x : ℕ). x * 2) (sym (zero_product b)))
    (λ a h. parts a (b * 2) (sym (mul_assoc (a % 2) b 2)) h ∙ xor_double (a % 2 * b) (a / 2 ⊗ b * 2)
    ∙ ap (λ (x : ℕ). x * 2) (sym (product_step a b)))
    a

pub product_x : (a : ℕ) → a ⊗ 2 ≡ a * 2
product_x a = product_double a 1 ∙ ap (λ (x : ℕ). x * 2) (product_one a)

-- what holds of the factors 0 and 1 holds of a number's lowest bit
pub digit : (P : ℕ → Type 0) → P 0 → P 1 → (a : ℕ) → P (a % 2)
digit P z o a = go (a % 2) (mod-lt a (omega arith))
  where
    go : (d : ℕ) → d < 2 → P d
    go zero h = z
    go (suc zero) h = o
    go (suc (suc d)) h = absurd (omega arith)

pub product_xor : (a b c : ℕ) → a ⊗ bit_xor b c ≡ bit_xor (a ⊗ b) (a ⊗ c)
product_xor a b c =
    bin_ind (λ a. a ⊗ bit_xor b c ≡ bit_xor (a ⊗ b) (a ⊗ c)) (simp zero_product)
    (λ a h. parts a (bit_xor b c)
    (digit (λ d. d * bit_xor b c ≡ bit_xor (d * b) (d * c)) (simp zero-mul) (simp one-mul)
    a) h
    ∙ ap (bit_xor (bit_xor (a % 2 * b) (a % 2 * c))) (sym (xor_double (a / 2 ⊗ b) (a / 2 ⊗ c)))
    ∙ interchange (a % 2 * b) (a % 2 * c) (a / 2 ⊗ b * 2) (a / 2 ⊗ c * 2)
    ∙ ap₂ bit_xor (sym (product_step a b)) (sym (product_step a c)))
    a

pub product_comm : (a b : ℕ) → a ⊗ b ≡ b ⊗ a
product_comm a b =
    bin_ind (λ a. a ⊗ b ≡ b ⊗ a) (zero_product b ∙ sym (product_zero b))
    (λ a h.
    parts a b (digit (λ d. d * b ≡ b ⊗ d) (zero-mul b ∙ sym (product_zero b))
    (one-mul b ∙ sym (product_one b)) a) h
    ∙ ap (bit_xor (b ⊗ (a % 2))) (sym (product_double b (a / 2))) ∙ sym
    (product_xor b (a % 2) (a / 2 * 2))
    ∙ ap (λ (x : ℕ). b ⊗ x) (low_and_rest a))
    a

pub xor_product : (a b c : ℕ) → bit_xor a b ⊗ c ≡ bit_xor (a ⊗ c) (b ⊗ c)
xor_product a b c =
    product_comm (bit_xor a b) c ∙ product_xor c a b ∙ ap₂ bit_xor (product_comm c a)
    (product_comm c b)

pub double_product : (a b : ℕ) → a * 2 ⊗ b ≡ a ⊗ b * 2
double_product a b =
    product_comm (a * 2) b ∙ product_double b a ∙ ap (λ (x : ℕ). x * 2) (product_comm b a)

pub product_assoc : (a b c : ℕ) → a ⊗ b ⊗ c ≡ a ⊗ (b ⊗ c)
product_assoc a b c =
    bin_ind (λ a. a ⊗ b ⊗ c ≡ a ⊗ (b ⊗ c))
    (ap (λ (x : ℕ). x ⊗ c) (zero_product b) ∙ zero_product c ∙ sym (zero_product (b ⊗ c)))
    (λ a h. ap (λ (x : ℕ). x ⊗ c) (product_step a b) ∙ xor_product (a % 2 * b) (a / 2 ⊗ b * 2) c
    ∙ ap₂ bit_xor (digit (λ d. d * b ⊗ c ≡ d * (b ⊗ c)) (simp (zero-mul, zero_product))
    (simp one-mul) a)
    (double_product (a / 2 ⊗ b) c ∙ ap (λ (x : ℕ). x * 2) h)
    ∙ sym (product_step a (b ⊗ c)))
    a
