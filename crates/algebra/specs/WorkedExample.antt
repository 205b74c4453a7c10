-- The definitions at work, modulo 7: a code of length 4 with locators 1, 2, 3, 4, multipliers 1 and
-- 2 sums.
use Rattle.std.specs.Prelude.{◌≡◌, ℕ, suc, ◌+◌, ◌-◌, ◌*◌, ◌%◌, [], ◌∷◌, slice_index}
use Rattle.algebra.specs.Meaning.{Arithmetic, Meaning, with_inverses}
use Rattle.algebra.specs.Polynomial.{evaluate, annihilator, quotient_linear, act, divide}
use Rattle.algebra.specs.Places.{failing}
use Rattle.algebra.specs.Theorems.{word_sum, noted_sum, erased_letter}
use Rattle.algebra.specs.ErrorLocators.{agrees, errors, modified_sum}

abbrev pub modulo_7 : Arithmetic
modulo_7 =
    record {
      size = 7;
      plus = λ a b. (a + b) % 7;
      minus = λ a b. (a + (7 - b)) % 7;
      times = λ a b. a * b % 7;
    }

abbrev pub field_of_7 : Meaning
field_of_7 = with_inverses modulo_7

abbrev pub locator : ℕ → ℕ
locator j = suc j

abbrev pub multiplier : ℕ → ℕ
multiplier j = 1

-- a codeword: 1 + 5 + 1 + 0 = 7 and 1 + 10 + 3 + 0 = 14
abbrev pub word : ℕ → ℕ
word j = slice_index (1 ∷ 5 ∷ 1 ∷ 0 ∷ []) j

-- other letters at the places 0 and 1, which are erased
abbrev pub known : ℕ → ℕ
known j = slice_index (6 ∷ 6 ∷ 1 ∷ 0 ∷ []) j

-- one wrong letter, at the place 2
abbrev pub heard : ℕ → ℕ
heard j = slice_index (1 ∷ 5 ∷ 4 ∷ 0 ∷ []) j

-- the letter at an erased place
abbrev pub letter : ℕ → ℕ
letter j =
    erased_letter field_of_7 locator multiplier (0 ∷ 1 ∷ [])
    (noted_sum modulo_7 4 locator multiplier (0 ∷ 1 ∷ []) known) j

pub record WorkedExample : Type 0 where
  -- (X − 1)(X − 2) = X² − 3X + 2; by X − 1 that is X − 2; at 3 it is 2; 1 / 3 = 5
  pub annihilator_of_two : annihilator modulo_7 (1 ∷ 2 ∷ []) ≡ 2 ∷ 4 ∷ 1 ∷ []
  pub its_quotient : quotient_linear modulo_7 1 (2 ∷ 4 ∷ 1 ∷ []) ≡ 5 ∷ 1 ∷ []
  pub its_value : evaluate modulo_7 (2 ∷ 4 ∷ 1 ∷ []) 3 ≡ 2
  pub a_third : divide field_of_7 1 3 ≡ 5
  pub first_sum : word_sum modulo_7 4 locator multiplier word 0 ≡ 0
  pub second_sum : word_sum modulo_7 4 locator multiplier word 1 ≡ 0
  -- the letters at the erased places come from the other two
  pub letter_0 : letter 0 ≡ 1
  pub letter_1 : letter 1 ≡ 5
  -- X − 3 fits the sums of the word that was heard
  pub one_error : errors 4 [] heard word ≡ 1
  pub its_place : failing 4 (agrees [] heard word) ≡ 2 ∷ []
  pub it_fits : act modulo_7 (annihilator modulo_7 (3 ∷ []))
      (modified_sum modulo_7 4 locator multiplier [] heard) 0 ≡ 0
