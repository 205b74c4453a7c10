use Rattle.std.proofs.Common.{refl, zero-le, sym, ◌∙◌}
use Rattle.std.proofs.lemmas.Bool.{false≢true, eqb-true, eq-eqb}
use Rattle.fields.specs.Modulo.{listed_primes}
use Rattle.fields.specs.ListedPrimes.{listed_prime, stands_from_has, has_from_stands}
use Rattle.fields.proofs.prime_field.PrimeField.new.Goals as goal

pub invariant_of-result : goal.invariant_of-result
invariant_of-result c = let found = c.if-contains.ensures.cases in record { listed = stands_from_has listed_primes _ (found.0, found.1, λ d. eqb-true _ _ (found.2 d)) }

pub returns-then-contains : goal.returns-then-contains
returns-then-contains c =
    let found = c.if-contains.ensures.cases in
    let listed = stands_from_has listed_primes _ (found.0, found.1, λ d. eqb-true _ _ (found.2 d)) in
    (listed, listed_prime _ listed, refl, listed, refl)

pub returns-else-contains : goal.returns-else-contains
returns-else-contains c = (
  refl,
  λ l. let has = has_from_stands listed_primes _ l in
      let none = c.if-contains.ensures.cases has.0 0 zero-le has.1 in
      false≢true (sym none ∙ eq-eqb _ _ (has.2 0)),
)
