use Rattle.std.proofs.Common.{◌≡◌, ◌^◌, ◌≤◌, true, eqb, ◌⊎◌, sym, ◌∙◌, subst, inl, inr, ⊎_elim}
use Rattle.std.proofs.lemmas.Bool.{eqb-true, eq-eqb}
use Rattle.algebra.specs.Alphabet.{Alphabet}
use Rattle.fields.specs.BinaryArithmetic.{modulo_polynomial}
use Rattle.fields.specs.declared.binary_field.BinaryField.{BinaryField}
use Rattle.fields.specs.BinaryModulus.{degree_positive}
use Rattle.fields.proofs.BinaryAlphabet.{all_letters, two_letters, two_or_all}
use Rattle.fields.proofs.binary_field.BinaryFieldLetteredField.admits.Goals as goal

two : (x : BinaryField) → 2 ≤ 2 ^ x.degree
two x = degree_positive x.modulus x.degree x.leading x.nonconstant

pub returns-then-letters-eq2 : goal.returns-then-letters-eq2
returns-then-letters-eq2 c =
    let x = c.args.self.now in
    let is = c.if-letters-eq2.true in
    record {
      closed = (
        λ _. subst (Alphabet (modulo_polynomial x.modulus x.degree)) (sym is) (two_letters x.modulus x.degree x.leading (two x)),
        λ _. eq-eqb c.args.letters 2 is,
      );
      only = (λ _. inl is, λ _. eq-eqb c.args.letters 2 is);
    }

pub returns-else-letters-eq2 : goal.returns-else-letters-eq2
returns-else-letters-eq2 c =
    let x = c.args.self.now in
    let all = λ (e : eqb c.args.letters c.size.result ≡ true). eqb-true c.args.letters c.size.result e ∙ c.size.ensures in
    let back : (c.args.letters ≡ 2) ⊎ (c.args.letters ≡ 2 ^ x.degree) → eqb c.args.letters c.size.result ≡ true =
    λ either. eq-eqb c.args.letters c.size.result (⊎_elim (λ is. absurd (c.if-letters-eq2.false is)) (λ is. is ∙ sym c.size.ensures) either) in
    record {
      closed = (
        λ e. subst (Alphabet (modulo_polynomial x.modulus x.degree)) (sym (all e)) (all_letters x.modulus x.degree x.leading (two x)),
        λ S. back (two_or_all x.modulus x.degree x.leading (two x) c.args.letters S),
      );
      only = (λ e. inr (all e), back);
    }
