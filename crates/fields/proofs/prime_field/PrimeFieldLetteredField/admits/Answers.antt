use mathlib.Core.Path.{subst⁻¹}
use Rattle.std.proofs.Common.{ℕ}
use Rattle.std.proofs.lemmas.Bool.{eqb-true, eq-eqb}
use Rattle.algebra.specs.Alphabet.{Alphabet}
use Rattle.fields.specs.Modulo.{modulo}
use Rattle.fields.specs.ListedPrimes.{listed_prime}
use Rattle.fields.specs.PrimeModulus.{whole_alphabet, only_whole}
use Rattle.fields.proofs.prime_field.PrimeFieldLetteredField.admits.Goals as goal

pub returns : goal.returns
returns c =
    let p = c.args.self.now.prime in
    let prime = listed_prime p c.args.self.now.listed in
    record {
      closed = (
        λ e. subst⁻¹ (λ (q : ℕ). Alphabet (modulo p) q) (eqb-true _ _ e) (whole_alphabet p prime),
        λ alphabet. eq-eqb _ _ (only_whole p _ prime alphabet),
      );
      only = (λ e. eqb-true _ _ e, λ is. eq-eqb _ _ is);
    }
