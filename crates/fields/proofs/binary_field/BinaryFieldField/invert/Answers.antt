use Rattle.std.proofs.Common.{ℕ, ◌^◌, ◌<◌, sym, ap, ◌∙◌, subst, ⊎_elim, arith}
use Rattle.algebra.specs.Meaning.{inverse_in}
use Rattle.fields.specs.BinaryArithmetic.{modulo_polynomial}
use Rattle.fields.specs.Irreducible.{Irreducible}
use Rattle.fields.specs.declared.binary_field.BinaryField.{BinaryField}
use Rattle.fields.specs.PolynomialDegrees.{degree_unique}
use Rattle.fields.specs.BinaryModulus.{binary_laws, binary_inverse, modulus_size}
use Rattle.fields.proofs.binary_field.BinaryFieldField.invert.Goals as goal

irreducible : (x : BinaryField) → Irreducible x.modulus
irreducible x = record { no_constant = x.nonconstant; no_product = x.unfactored }

pub returns-then-a-eq0 : goal.returns-then-a-eq0
returns-then-a-eq0 c =
    let x = c.args.self.now in
    let laws = (binary_laws x.modulus x.degree x.leading (irreducible x) (modulus_size x.modulus x.degree x.leading x.bounded)).inverses in
    ⊎_elim (λ zero. sym (ap (inverse_in (modulo_polynomial x.modulus x.degree)) zero ∙ laws.nothing_for_zero))
    (λ large. sym (laws.nothing_outside c.args.a (omega (arith, large.1)))) c.then-a-eq0.either

pub inverse-requires : goal.inverse-requires
inverse-requires c =
    let x = c.args.self.now in
    record {
      irreducible = irreducible x;
      positive = omega arith;
      element = λ k d. let h : c.args.a < 2 ^ x.degree = omega arith in subst (λ (n : ℕ). c.args.a < 2 ^ n) (degree_unique x.modulus x.degree k x.leading d) h;
    }

pub returns : goal.returns
returns c =
    let x = c.args.self.now in
    sym (binary_inverse x.modulus x.degree x.leading (irreducible x) c.args.a c.inverse.result (omega arith)
    (c.inverse.ensures.below x.degree x.leading) (c.inverse.ensures.inverts x.degree x.leading))
