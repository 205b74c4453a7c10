use Rattle.std.proofs.Common.{◌≡◌, length}
use Rattle.decoding.specs.filling.Polynomials.{coefficients_of, degree_of}
use Rattle.decoding.specs.filling.Fillings.{blanks_below, annihilator_below}
use Rattle.decoding.proofs.filling.erasures.blank_annihilator.Given as goal

-- the annihilator of the blanks among the cells so far
abbrev pub invariant-loop-cell : goal.invariant-loop-cell
invariant-loop-cell g l =
    (coefficients_of l.product ≡ annihilator_below (g.F.Field.meaning l.field).arithmetic l.locators l.cells (length l.yielded))
    × (degree_of l.product ≡ length (blanks_below l.cells (length l.yielded)))
