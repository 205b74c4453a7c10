-- Lemmas: proved, nothing here is to be believed. For a field of a caller's own: that its inverses
-- are lawful follows from the laws of its ring, and from an inverse for each element other than 0.
use Rattle.algebra.specs.Meaning.{Arithmetic, with_inverses}
use Rattle.algebra.specs.Laws.{Total, RingLaws, HasInverses, InverseLaws}
use Rattle.algebra.proofs.Inverses as inverses

pub lawful_inverses : (A : Arithmetic) → Total A → RingLaws A → HasInverses A
    → InverseLaws (with_inverses A)
lawful_inverses A total ring has = inverses.inverse_laws A total ring has
