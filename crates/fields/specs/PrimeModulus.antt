-- Lemmas: proved, nothing here is to be believed.
-- Whole numbers modulo a prime are a field.
use Rattle.std.specs.Prelude.{◌≡◌, ℕ, ◌+◌, ◌-◌, ◌*◌, ◌/◌, ◌%◌, ◌^◌, ◌<◌, ◌≤◌, Some, refl}
use Rattle.std.proofs.Common.{sym, ◌∙◌, ap, ⊎_elim, add_assoc, add_comm, add-zero, mul_assoc, mul_comm, mul-one, mul-zero, mul-add, mod-lt, mod-eq_of_lt, div-add-mod', arith}
use Rattle.std.proofs.Math.Nat.{mod_self, mod-add-mod, add-mod_right}
use Rattle.std.proofs.lemmas.Bool.{cases_lt}
use Rattle.std.proofs.lemmas.Nat.{mul-lt}
use Rattle.algebra.specs.Meaning.{with_inverses, inverse_in}
use Rattle.algebra.specs.Alphabet.{Alphabet}
use Rattle.algebra.specs.Laws.{Total, RingLaws, Laws}
use Rattle.algebra.proofs.OnElements.{on_elements_inside}
use Rattle.algebra.proofs.Inverses.{inverse_found}
use Rattle.algebra.specs.Modulus.{Modulus}
use Rattle.algebra.proofs.Modulus.{modulus_total, modulus_ring, modulus_laws}
use Rattle.fields.specs.Modulo.{Prime, Listed, modulo}
use Rattle.fields.specs.Congruence.{mul_mod_left}
use Rattle.fields.specs.ListedPrimes.{listed_prime, listed_small}

prime_modulus : (p : ℕ) → Prime p
    → Modulus p (λ a b. (a + b) % p) (λ a b. (a + (p - b)) % p) (λ a b. (a * b) % p)
prime_modulus p prime =
    let positive : 0 < p = omega (arith, prime.two) in
    record {
      add = λ a b. a + b;
      mul = λ a b. a * b;
      reduce = λ x. x % p;
      modulus = p;
      add_assoc = add_assoc;
      add_comm = add_comm;
      add-zero = add-zero;
      mul_assoc = mul_assoc;
      mul_comm = mul_comm;
      mul-one = mul-one;
      mul-zero = mul-zero;
      mul-add = mul-add;
      smallest = prime.two;
      reduce_below = λ x. mod-lt x positive;
      reduce_small = λ x h. mod-eq_of_lt h;
      reduce_add = λ x y. mod-add-mod x p y;
      reduce_mul = λ x y. mul_mod_left x y p;
      reduce_modulus = mod_self p;
      plus_is = λ a b ha hb. refl;
      times_is = λ a b ha hb. refl;
      minus_below = λ a b ha hb. mod-lt _ positive;
      minus_is = λ a b ha hb. mod-add-mod (a + (p - b)) p b ∙ ap (λ x. x % p) (back a b hb) ∙
          add-mod_right a p ∙ mod-eq_of_lt ha;
      quotient = λ a. p / a;
      rest = λ a. p % a;
      division = λ a pa. sym (div-add-mod' p a);
      rest_smaller = λ a pa. mod-lt p pa;
      no_factor = λ a two below divides. prime.no_divisor a two below divides;
    }
  where
    back : (a b : ℕ) → b < p → a + (p - b) + b ≡ a + p
    back a b h = omega arith

pub prime_total : (p : ℕ) → Prime p → Total (modulo p)
prime_total p prime = modulus_total (prime_modulus p prime)

pub prime_ring : (p : ℕ) → Prime p → RingLaws (modulo p)
prime_ring p prime = modulus_ring (prime_modulus p prime)

pub listed_laws : (p : ℕ) → Listed p → Laws (with_inverses (modulo p))
listed_laws p listed =
    modulus_laws (prime_modulus p (listed_prime p listed)) (listed_small p listed)

-- the inverse is whatever element makes 1
pub prime_inverse : (p a b : ℕ) → Prime p → a < p → b < p → (a * b) % p ≡ 1
    → inverse_in (modulo p) a ≡ Some b
prime_inverse p a b prime ha hb e =
    (inverse_found (modulo p) (prime_total p prime) (prime_ring p prime) a b ha hb
    (on_elements_inside p (λ x y. (x * y) % p) a b ha hb ∙ e)).0

-- all elements are an alphabet
pub whole_alphabet : (p : ℕ) → Prime p → Alphabet (modulo p) p
whole_alphabet p prime =
    let t = prime_total p prime in
    record {
      two = prime.two;
      elements = omega arith;
      plus_closed = λ a b ha hb. t.plus_element a b;
      minus_closed = λ a b ha hb. t.minus_element a b;
      times_closed = λ a b ha hb. t.times_element a b;
    }

-- fewer are none: 1 + (letters − 1) is no letter
pub only_whole : (p letters : ℕ) → Prime p → Alphabet (modulo p) letters → letters ≡ p
only_whole p letters prime alphabet =
    ⊎_elim fewer (λ all. let most = alphabet.elements in omega arith) (cases_lt letters p)
  where
    no_letter : (x : ℕ) → x ≡ letters → x < letters → letters ≡ p
    no_letter x e h = absurd (omega arith)

    fewer : letters < p → letters ≡ p
    fewer h =
        let two = alphabet.two in
        let whole : 1 + (letters - 1) ≡ letters = omega arith in
        let sum = on_elements_inside p (λ a b. (a + b) % p) 1 (letters - 1) (omega arith)
        (omega arith) ∙ ap (λ x. x % p) whole ∙ mod-eq_of_lt h in
        no_letter ((modulo p).plus 1 (letters - 1)) sum
        (alphabet.plus_closed 1 (letters - 1) (omega arith) (omega arith))

-- the product of two elements fits 32 bits
pub product_fits : (a b p : ℕ) → a < p → b < p → p ≤ 2 ^ 16 → a * b < 2 ^ 32
product_fits a b p ha hb small = mul-lt a b (2 ^ 16) (2 ^ 16) (omega arith) (omega arith)
