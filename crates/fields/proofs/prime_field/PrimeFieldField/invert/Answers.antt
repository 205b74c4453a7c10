use Rattle.std.proofs.Common.{sym, ap, ◌∙◌, ⊎_elim, arith}
use Rattle.algebra.specs.Meaning.{inverse_in}
use Rattle.fields.specs.Modulo.{modulo}
use Rattle.fields.specs.ListedPrimes.{listed_prime, listed_small}
use Rattle.fields.specs.PrimeModulus.{prime_inverse, listed_laws}
use Rattle.fields.proofs.prime_field.PrimeFieldField.invert.Goals as goal

pub returns-then-a-eq0 : goal.returns-then-a-eq0
returns-then-a-eq0 c =
    let laws = (listed_laws c.args.self.now.prime c.args.self.now.listed).inverses in
    ⊎_elim (λ zero. sym (ap (inverse_in (modulo c.args.self.now.prime)) zero ∙ laws.nothing_for_zero))
    (λ large. sym (laws.nothing_outside c.args.a large.1)) c.then-a-eq0.either

pub inverse-requires : goal.inverse-requires
inverse-requires c =
    let field = c.args.self.now in
    let small = listed_small field.prime field.listed in
    record { prime = listed_prime field.prime field.listed; small = omega arith; positive = omega arith; element = omega arith }

pub returns : goal.returns
returns c =
    let field = c.args.self.now in
    sym (prime_inverse field.prime c.args.a c.inverse.result (listed_prime field.prime field.listed) (omega arith) c.inverse.ensures.below c.inverse.ensures.inverts)
