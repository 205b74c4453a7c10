-- The cards of the cases keep every rule.
use Rattle.std.proofs.Common.{◌≡◌, ℕ, zero, suc, ◌<◌, ◌≤◌, sym, refl, ap, ◌∙◌, arith, lit≤, rules}
use Rattle.algebra.specs.Alphabet.{Alphabet}
use Rattle.fields.specs.Modulo.{Listed, stands_in}
use Rattle.fields.specs.LongDivision.{Degree, remainder}
use Rattle.fields.specs.Irreducible.{Irreducible}
use Rattle.fields.specs.BinaryArithmetic.{modulo_polynomial}
use Rattle.fields.specs.ListedPrimes.{listed_prime}
use Rattle.fields.specs.PrimeModulus.{listed_laws, whole_alphabet}
use Rattle.fields.specs.PolynomialDegrees.{degree_unique}
use Rattle.fields.specs.PolynomialFactors.{trial_division}
use Rattle.fields.specs.BinaryModulus.{binary_laws}
use Rattle.fields.proofs.BinaryAlphabet.{two_letters, all_letters}
use Rattle.codes.specs.Checked.{Checked}
use Rattle.codes.specs.CountedLists.{counting_fit, counting_nonzero, ones_fit}
use Rattle.decoding.specs.encoding.CodeExamples.{modulo_seven, small_code}
use Rattle.hand_tried.specs.HandTried.{modulo_eleven, seven_cells}

listed_7 : Listed 7
unfolding stands_in
listed_7 = refl

pub small_checked : Checked modulo_seven small_code
small_checked = record {
  laws = listed_laws 7 listed_7;
  shape = search rules;
  alphabet = whole_alphabet 7 (listed_prime 7 listed_7);
  locators = counting_fit _ 0 6 (lit≤ tt);
  multipliers = ones_fit _ 6 (lit≤ tt);
}

-- neither X nor X + 1 divides X³ + X + 1
remainder_one : (d : ℕ) → 2 ≤ d → d < 4 → (Degree d 1) × (remainder d 1 11 ≡ 1)
unfolding remainder
remainder_one zero two four = absurd (omega arith)
remainder_one (suc zero) two four = absurd (omega arith)
remainder_one (suc (suc zero)) two four = (refl, refl)
remainder_one (suc (suc (suc zero))) two four = (refl, refl)
remainder_one (suc (suc (suc (suc d)))) two four = absurd (omega arith)

irreducible : Irreducible 11
irreducible =
    trial_division 11 3 (lit≤ tt) refl
    (λ d k two four degree divides.
    let (linear, one) = remainder_one d two four in
    let same = degree_unique d 1 k linear degree in
    let none = sym one ∙ ap (λ (k : ℕ). remainder d k 11) same ∙ divides in
    omega arith)

checked_with : (letters : ℕ) → Alphabet (modulo_polynomial 11 3) letters → Checked modulo_eleven (seven_cells letters)
checked_with letters alphabet = record {
  laws = binary_laws 11 3 refl irreducible (lit≤ tt);
  shape = search rules;
  alphabet = alphabet;
  locators = counting_fit _ 1 7 (lit≤ tt);
  multipliers = counting_nonzero _ 1 7 (lit≤ tt) (lit≤ tt);
}

pub eight_checked : Checked modulo_eleven (seven_cells 8)
eight_checked = checked_with 8 (all_letters 11 3 refl (lit≤ tt))

pub two_checked : Checked modulo_eleven (seven_cells 2)
two_checked = checked_with 2 (two_letters 11 3 refl (lit≤ tt))
