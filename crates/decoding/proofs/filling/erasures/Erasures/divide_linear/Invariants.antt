use Rattle.std.proofs.Common.{◌-◌, length}
use Rattle.decoding.specs.filling.Polynomials.{coefficients_of, degree_of}
use Rattle.decoding.specs.filling.Fillings.{number_at}
use Rattle.decoding.proofs.filling_lemmas.Polynomials.{Divided}
use Rattle.decoding.proofs.filling.erasures.Erasures.divide_linear.Given as goal

-- as many coefficients are divided as pairs were taken, from the highest down
abbrev pub invariant-loop-coefficient : goal.invariant-loop-coefficient
invariant-loop-coefficient g l =
    let p = l.self.annihilator.now in
    Divided (g.F.Field.meaning l.field).arithmetic l.point (coefficients_of p) (number_at l.self.sums.now)
    (degree_of p - length l.yielded) l.quotient l.action l.value
