-- Lemmas: proved, nothing here is to be believed.
-- Remainders after division by f of degree k: sums and products respect them.
use Rattle.std.specs.Prelude.{◌≡◌, ℕ, suc, ◌*◌, ◌/◌, ◌%◌, ◌^◌, ◌<◌, bit_xor}
use Rattle.std.proofs.Common.{sym, ap, ap₂, ◌∙◌, zero-mul, one-mul, add-one, pow_pos, shr-shr}
use Rattle.std.specs.Int.Bits.{xor_zero_r, xor_assoc}
use Rattle.std.proofs.lemmas.Nat.{xor_lt, xor_comm}
use Rattle.fields.specs.CarrylessProduct.{◌⊗◌}
use Rattle.fields.specs.LongDivision.{Degree, Remainder, remainder}
use Rattle.fields.specs.PolynomialRing.{xor_laws, interchange, zero_product, one_product, xor_product, product_assoc, product_comm, product_x, product_step, digit}
use Rattle.fields.specs.PolynomialDivision.{xor_lower, remainder_divides, remainder_unique}

module _ (f k : ℕ) (d : Degree f k) where
  abbrev rem : ℕ → ℕ
  rem a = remainder f k a

  abbrev divided : (a : ℕ) → Remainder f k a (rem a)
  divided a = remainder_divides f k a d

  abbrev quo : ℕ → ℕ
  quo a = (divided a).quotient

  pub remainder_below : (a : ℕ) → rem a < 2 ^ k
  remainder_below a = (divided a).small

  pub remainder_small : (a : ℕ) → a < 2 ^ k → rem a ≡ a
  remainder_small a h =
      remainder_unique f k a a d
      (record {
        quotient = 0;
        divides = ap (λ (x : ℕ). bit_xor x a) (sym (zero_product f));
        small = h;
      })

  -- what differs by a multiple of f has the same remainder
  pub remainder_same : (q a b : ℕ) → a ≡ bit_xor (q ⊗ f) b → rem a ≡ rem b
  remainder_same q a b e =
      remainder_unique f k a (rem b) d (record {
        quotient = bit_xor q (quo b);
        divides = e ∙ ap (bit_xor (q ⊗ f)) (divided b).divides ∙ sym
            (xor_assoc (q ⊗ f) (quo b ⊗ f) (rem b)) ∙ ap (λ (x : ℕ). bit_xor x (rem b))
            (sym (xor_product q (quo b) f));
        small = (divided b).small;
      })

  pub remainder_modulus : rem f ≡ 0
  remainder_modulus =
      remainder_same 1 f 0 (sym (xor_zero_r (1 ⊗ f) ∙ one_product f)) ∙ remainder_small 0
      (pow_pos k)

  -- where the degrees are equal, f is taken off once
  pub remainder_once : (a : ℕ) → Degree a k → rem a ≡ bit_xor a f
  remainder_once a h =
      remainder_same 1 a (bit_xor a f)
      (shown a f ∙ ap (λ (x : ℕ). bit_xor x (bit_xor a f)) (sym (one_product f)))
      ∙ remainder_small (bit_xor a f) (xor_lower f a k d h)
    where
      shown : (a f : ℕ) → a ≡ bit_xor f (bit_xor a f)
      shown a f = simp xor_laws

  pub remainder_add : (a b : ℕ) → rem (bit_xor (rem a) b) ≡ rem (bit_xor a b)
  remainder_add a b =
      sym (remainder_same (quo a) (bit_xor a b) (bit_xor (rem a) b)
      (ap (λ (x : ℕ). bit_xor x b) (divided a).divides ∙ xor_assoc (quo a ⊗ f) (rem a) b))

  pub remainder_xor : (a b : ℕ) → rem (bit_xor a b) ≡ bit_xor (rem a) (rem b)
  remainder_xor a b =
      remainder_same (bit_xor (quo a) (quo b)) (bit_xor a b) (bit_xor (rem a) (rem b))
      (ap₂ bit_xor (divided a).divides (divided b).divides ∙ interchange (quo a ⊗ f) (rem a)
      (quo b ⊗ f) (rem b)
      ∙ ap (λ (x : ℕ). bit_xor x (bit_xor (rem a) (rem b))) (sym (xor_product (quo a) (quo b) f)))
      ∙ remainder_small (bit_xor (rem a) (rem b))
      (xor_lt k (rem a) (rem b) (remainder_below a) (remainder_below b))

  pub remainder_product : (a b : ℕ) → rem (rem a ⊗ b) ≡ rem (a ⊗ b)
  remainder_product a b =
      sym (remainder_same (quo a ⊗ b) (a ⊗ b) (rem a ⊗ b)
      (ap (λ (x : ℕ). x ⊗ b) (divided a).divides ∙ xor_product (quo a ⊗ f) (rem a) b
      ∙ ap (λ (x : ℕ). bit_xor x (rem a ⊗ b))
      (product_assoc (quo a) f b ∙ ap (λ (x : ℕ). quo a ⊗ x) (product_comm f b) ∙ sym
      (product_assoc (quo a) b f))))

  pub remainder_double : (a : ℕ) → rem (rem a * 2) ≡ rem (a * 2)
  remainder_double a =
      ap rem (sym (product_x (rem a))) ∙ remainder_product a 2 ∙ ap rem (product_x a)

  -- Horner's rule: one more coefficient of a, at place j
  pub remainder_horner : (a b j : ℕ) → b < 2 ^ k
      → rem (a / 2 ^ j ⊗ b) ≡ bit_xor (rem (rem (a / 2 ^ suc j ⊗ b) * 2)) (a / 2 ^ j % 2 * b)
  remainder_horner a b j h =
      ap rem (product_step c b ∙ xor_comm (c % 2 * b) (c / 2 ⊗ b * 2)) ∙ remainder_xor
      (c / 2 ⊗ b * 2) (c % 2 * b)
      ∙ ap₂ bit_xor
      (sym (remainder_double (c / 2 ⊗ b)) ∙ ap (λ (x : ℕ). rem (rem (x ⊗ b) * 2))
      (shr-shr a j 1 ∙ ap (λ (x : ℕ). a / 2 ^ x) (add-one j)))
      (remainder_small (c % 2 * b)
      (digit (λ x. x * b < 2 ^ k) (simp zero-mul (pow_pos k)) (simp one-mul h) c))
    where
      c : ℕ
      c = a / 2 ^ j
