-- The house rows keep every rule of a card.
use Rattle.std.proofs.Common.{◌≡◌, ℕ, zero, suc, refl, arith, lit≤, rules}
use mathlib.Core.Path.{subst⁻¹}
use Rattle.codes.specs.declared.house.rows.HouseRow.{HouseRow}
use Rattle.fields.specs.Modulo.{Listed, stands_in}
use Rattle.fields.specs.ListedPrimes.{listed_prime}
use Rattle.fields.specs.PrimeModulus.{listed_laws, whole_alphabet}
use Rattle.fields.specs.BinaryModulus.{binary_laws}
use Rattle.fields.proofs.BinaryAlphabet.{two_letters, all_letters}
use Rattle.codes.specs.CountedLists.{counting_fit, counting_nonzero, ones_fit}
use Rattle.fields.specs.declared.kind.FieldKind.TheVariants.{Prime, Binary}
use Rattle.codes.specs.house.HouseRows.{engraved, inked, punched, house_row, IsHouseNumber}
use Rattle.codes.specs.house.HouseCards.{PrimeRow, BinaryRow}
use Rattle.codes.proofs.house_lemmas.HouseModuli.{modulus_285, modulus_67}

listed_37 : Listed 37
unfolding stands_in
listed_37 = refl

pub inked_row : PrimeRow inked
inked_row = record {
  kind = refl;
  origin = listed_37;
  checked = record {
    laws = listed_laws 37 listed_37;
    shape = search rules;
    alphabet = whole_alphabet 37 (listed_prime 37 listed_37);
    locators = counting_fit _ 0 20 (lit≤ tt);
    multipliers = ones_fit _ 20 (lit≤ tt);
  };
}

pub engraved_row : BinaryRow engraved
engraved_row = record {
  kind = refl;
  degree = 8;
  origin = modulus_285;
  checked = record {
    laws = binary_laws 285 8 refl modulus_285.irreducible (lit≤ tt);
    shape = search rules;
    alphabet = all_letters 285 8 refl (lit≤ tt);
    locators = counting_fit _ 0 64 (lit≤ tt);
    multipliers = ones_fit _ 64 (lit≤ tt);
  };
}

pub punched_row : BinaryRow punched
punched_row = record {
  kind = refl;
  degree = 6;
  origin = modulus_67;
  checked = record {
    laws = binary_laws 67 6 refl modulus_67.irreducible (lit≤ tt);
    shape = search rules;
    alphabet = two_letters 67 6 refl (lit≤ tt);
    locators = counting_fit _ 1 63 (lit≤ tt);
    multipliers = counting_nonzero _ 1 63 (lit≤ tt) (lit≤ tt);
  };
}

pub ruleset all_rows = (engraved_row, inked_row, punched_row)

-- every house row is of its kind
house_row_kinds : (n : ℕ) → IsHouseNumber n → ((house_row n).kind ≡ Prime → PrimeRow (house_row n)) × ((house_row n).kind ≡ Binary → BinaryRow (house_row n))
house_row_kinds zero is = absurd (omega (arith, is.0))
house_row_kinds (suc zero) is = (λ e. absurd (cc e), λ e. engraved_row)
house_row_kinds (suc (suc zero)) is = (λ e. inked_row, λ e. absurd (cc e))
house_row_kinds (suc (suc (suc zero))) is = (λ e. absurd (cc e), λ e. punched_row)
house_row_kinds (suc (suc (suc (suc n)))) is = absurd (omega (arith, is.1))

-- a row that was found keeps the rules of its kind
pub row_kinds : (n : ℕ) (row : HouseRow) → IsHouseNumber n × (row ≡ house_row n) → (row.kind ≡ Prime → PrimeRow row) × (row.kind ≡ Binary → BinaryRow row)
row_kinds n row (is, found) = subst⁻¹ (λ (r : HouseRow). (r.kind ≡ Prime → PrimeRow r) × (r.kind ≡ Binary → BinaryRow r)) found (house_row_kinds n is)
