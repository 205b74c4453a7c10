-- Lemmas: proved, nothing here is to be believed.
-- The tables make a field.
use Rattle.std.specs.Prelude.{◌≡◌, ℕ, zero, suc, ◌<◌, Bool, ◌⊎◌, [], length, Decides, slice_index_or, refl}
use Rattle.std.proofs.Common.{sym, subst, inl, inr, arith, lit≤}
use Rattle.kimzhadyr.specs.Alphabet.{Alphabet}
use Rattle.kimzhadyr.specs.Laws.{Total, RingLaws, HasInverses, Laws}
use Rattle.kimzhadyr.specs.Meaning.{with_inverses}
use Rattle.kimzhadyr.specs.InverseLaws.{lawful_inverses}
use Rattle.outside.specs.four_field.FourElements.{sums, products, entry, four_elements}
use Rattle.outside.specs.four_field.TableLaws.{law_of_one, law_of_two, law_of_three, closed_below, entry_outside, entry_below}

sum_columns : (a : ℕ) → a < 4 → length (slice_index_or sums a []) ≡ 4
sum_columns = law_of_one (λ a. length (slice_index_or sums a [])) (λ a. 4) refl

product_columns : (a : ℕ) → a < 4 → length (slice_index_or products a []) ≡ 4
product_columns = law_of_one (λ a. length (slice_index_or products a [])) (λ a. 4) refl

sum_element : (a b : ℕ) → entry sums a b < 4
sum_element = entry_below sums refl sum_columns (closed_below 4 (entry sums) refl)

total : Total four_elements
total = record {
  smallest = lit≤ tt;
  plus_element = sum_element;
  minus_element = sum_element;
  times_element = entry_below products refl product_columns (closed_below 4 (entry products) refl);
  plus_outside = entry_outside sums refl sum_columns;
  minus_outside = entry_outside sums refl sum_columns;
  times_outside = entry_outside products refl product_columns;
}

ring : RingLaws four_elements
ring = record {
  plus_assoc = law_of_three (λ a b c. entry sums (entry sums a b) c)
      (λ a b c. entry sums a (entry sums b c)) refl;
  plus_comm = law_of_two (λ a b. entry sums a b) (λ a b. entry sums b a) refl;
  plus_zero = law_of_one (λ a. entry sums a 0) (λ a. a) refl;
  times_assoc = law_of_three (λ a b c. entry products (entry products a b) c)
      (λ a b c. entry products a (entry products b c)) refl;
  times_comm = law_of_two (λ a b. entry products a b) (λ a b. entry products b a) refl;
  times_one = law_of_one (λ a. entry products a 1) (λ a. a) refl;
  times_plus = law_of_three (λ a b c. entry products a (entry sums b c))
      (λ a b c. entry sums (entry products a b) (entry products a c)) refl;
  minus_plus = law_of_two (λ a b. entry sums (entry sums a b) b) (λ a b. a) refl;
}

inverses : HasInverses four_elements
inverses zero nonzero h = absurd (nonzero refl)
inverses (suc zero) nonzero h = (1, lit≤ tt, refl)
inverses (suc (suc zero)) nonzero h = (3, lit≤ tt, refl)
inverses (suc (suc (suc zero))) nonzero h = (2, lit≤ tt, refl)
inverses (suc (suc (suc (suc a)))) nonzero h = absurd (omega arith)

pub four_laws : Laws (with_inverses four_elements)
four_laws = record {
  total = total;
  bounded = lit≤ tt;
  ring = ring;
  inverses = lawful_inverses four_elements total ring inverses;
}

four_letters : Alphabet four_elements 4
four_letters = record {
  two = lit≤ tt;
  elements = lit≤ tt;
  plus_closed = closed_below 4 (entry sums) refl;
  minus_closed = closed_below 4 (entry sums) refl;
  times_closed = closed_below 4 (entry products) refl;
}

two_letters : Alphabet four_elements 2
two_letters = record {
  two = lit≤ tt;
  elements = lit≤ tt;
  plus_closed = closed_below 2 (entry sums) refl;
  minus_closed = closed_below 2 (entry sums) refl;
  times_closed = closed_below 2 (entry products) refl;
}

-- three are none: 1 + 2 is 3
pub two_or_four : (n : ℕ) → Alphabet four_elements n → (n ≡ 2) ⊎ (n ≡ 4)
two_or_four zero alphabet = absurd (omega (arith, alphabet.two))
two_or_four (suc zero) alphabet = absurd (omega (arith, alphabet.two))
two_or_four (suc (suc zero)) alphabet = inl refl
two_or_four (suc (suc (suc zero))) alphabet =
    absurd (let three : 3 < 3 = alphabet.plus_closed 1 2 (lit≤ tt) (lit≤ tt) in omega arith)
two_or_four (suc (suc (suc (suc zero)))) alphabet = inr refl
two_or_four (suc (suc (suc (suc (suc n))))) alphabet = absurd (omega (arith, alphabet.elements))

pub alphabet_of : (n : ℕ) → (n ≡ 2) ⊎ (n ≡ 4) → Alphabet four_elements n
alphabet_of n (inl two) = subst (Alphabet four_elements) (sym two) two_letters
alphabet_of n (inr four) = subst (Alphabet four_elements) (sym four) four_letters

-- a test for 2 and 4 is a test for an alphabet
pub decides_alphabet : (n : ℕ) (test : Bool) → Decides test ((n ≡ 2) ⊎ (n ≡ 4))
    → Decides test (Alphabet four_elements n)
decides_alphabet n test (only, is) =
    (λ t. alphabet_of n (only t), λ alphabet. is (two_or_four n alphabet))
