-- Which numbers may be letters in a field of the binary kind: the numbers below 2, and all elements.
use Rattle.std.proofs.Common.{◌≡◌, ℕ, zero, suc, ◌+◌, ◌-◌, ◌^◌, ◌<◌, ◌≤◌, ◌⊎◌, sym, ap, ◌∙◌, subst, inl, inr, ⊎_elim, eq-zero-or-pos, one-mul, pow-suc, arith, pow_pos}
use mathlib.Core.Path.{subst⁻¹}
use native.Mathlib.Nat.{two-pow-succ}
use lib.Bits.{bit_xor, xor_lt, xor_shifted}
use lib.Pow.{pow-lt}
use Rattle.std.proofs.lemmas.Bool.{cases_lt}
use Rattle.algebra.specs.Meaning.{Arithmetic, on_elements}
use Rattle.algebra.specs.Alphabet.{Alphabet}
use Rattle.algebra.proofs.OnElements.{on_elements_inside, on_elements_below}
use Rattle.fields.specs.CarrylessProduct.{◌⊗◌}
use Rattle.fields.specs.LongDivision.{Degree, remainder}
use Rattle.fields.specs.BinaryArithmetic.{modulo_polynomial}
use Rattle.fields.specs.PolynomialRing.{zero_product, one_product, product_x}
use Rattle.fields.specs.PolynomialRemainders.{remainder_below, remainder_small}

module _ (f k : ℕ) (d : Degree f k) (two : 2 ≤ 2 ^ k) where
  abbrev A : Arithmetic
  A = modulo_polynomial f k

  abbrev times : ℕ → ℕ → ℕ
  times a b = remainder f k (a ⊗ b)

  pub all_letters : Alphabet A (2 ^ k)
  all_letters = record {
    two = two;
    elements = omega arith;
    plus_closed = λ a b _ _. on_elements_below (2 ^ k) bit_xor (omega arith) (xor_lt k) a b;
    minus_closed = λ a b _ _. on_elements_below (2 ^ k) bit_xor (omega arith) (xor_lt k) a b;
    times_closed = λ a b _ _. on_elements_below (2 ^ k) times (omega arith) (λ a b _ _. remainder_below f k d (a ⊗ b)) a b;
  }

  -- what an operation answers to letters, where these are elements
  closed : (op : ℕ → ℕ → ℕ) (n : ℕ) → n ≤ 2 ^ k → ((a b : ℕ) → a < n → b < n → op a b < n) → (a b : ℕ) → a < n → b < n → on_elements (2 ^ k) op a b < n
  closed op n le below a b ha hb = subst⁻¹ (λ (x : ℕ). x < n) (on_elements_inside (2 ^ k) op a b (omega arith) (omega arith)) (below a b ha hb)

  bit_product : (a b : ℕ) → a < 2 → b < 2 → times a b < 2
  bit_product zero b ha hb = subst⁻¹ (λ (x : ℕ). x < 2) (ap (remainder f k) (zero_product b) ∙ remainder_small f k d 0 (omega arith)) (omega arith)
  bit_product (suc zero) b ha hb = subst⁻¹ (λ (x : ℕ). x < 2) (ap (remainder f k) (one_product b) ∙ remainder_small f k d b (omega arith)) hb
  bit_product (suc (suc a)) b ha hb = absurd (omega arith)

  pub two_letters : Alphabet A 2
  two_letters = record {
    two = omega arith;
    elements = two;
    plus_closed = closed bit_xor 2 two (xor_lt 1);
    minus_closed = closed bit_xor 2 two (xor_lt 1);
    times_closed = closed times 2 two bit_product;
  }

  module _ (n : ℕ) (S : Alphabet A n) (three : 3 ≤ n) where
    -- X is a letter, so every power of X that is an element is one
    power_letter : (i : ℕ) → i < k → 2 ^ i < n
    power_letter zero h = omega arith
    power_letter (suc i) h =
        subst (λ (x : ℕ). x < n) next (S.times_closed (2 ^ i) 2 (power_letter i (omega arith)) (omega arith))
      where
        next : A.times (2 ^ i) 2 ≡ 2 ^ suc i
        next =
            on_elements_inside (2 ^ k) times (2 ^ i) 2 (pow-lt (omega arith)) (omega (arith, S.elements))
            ∙ ap (remainder f k) (product_x (2 ^ i) ∙ sym (pow-suc 2 i))
            ∙ remainder_small f k d (2 ^ suc i) (pow-lt h)

    -- were some element no letter, n would be the sum of two letters, the highest power and the rest
    all_or_more : (m : ℕ) → k ≡ suc m → n < 2 ^ k → ⊥
    all_or_more m e l =
        let p = power_letter m (omega arith) in
        let h : n < 2 ^ m + 2 ^ m = omega (arith, ap (λ (x : ℕ). 2 ^ x) e, two-pow-succ m) in
        let r : n - 2 ^ m < 2 ^ m = omega arith in
        let s : bit_xor (2 ^ m) (n - 2 ^ m) ≡ n = ap (λ (x : ℕ). bit_xor x (n - 2 ^ m)) (sym (one-mul (2 ^ m))) ∙ xor_shifted 1 m (n - 2 ^ m) r ∙ omega (arith, one-mul (2 ^ m)) in
        let c = S.plus_closed (2 ^ m) (n - 2 ^ m) p (omega (arith, pow_pos m)) in
        omega (arith, on_elements_inside (2 ^ k) bit_xor (2 ^ m) (n - 2 ^ m) (omega arith) (omega arith))

  pub two_or_all : (n : ℕ) → Alphabet A n → (n ≡ 2) ⊎ (n ≡ 2 ^ k)
  two_or_all n S =
      ⊎_elim (λ (l : n < 3). inl (omega (arith, S.two)))
      (λ (l : 3 ≤ n). inr (⊎_elim (λ (h : n < 2 ^ k). absurd (all_or_more n S l (k - 1) (omega (arith, positive)) h)) (λ h. omega (arith, S.elements)) (cases_lt n (2 ^ k))))
      (cases_lt n 3)
    where
      positive : 0 < k
      positive = ⊎_elim (λ e. absurd (omega (arith, ap (λ (x : ℕ). 2 ^ x) e))) (λ p. p) (eq-zero-or-pos k)
