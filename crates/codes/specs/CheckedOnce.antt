-- Lemmas: proved, nothing here is to be believed.
-- A checked card keeps one fact: there is one proof of it at most.
use Rattle.std.proofs.Common.{◌≡◌, ℕ, Some, sym, ap, ◌∙◌}
use mathlib.Core.HLevel.{Σ_prop_path}
use Rattle.std.proofs.Props.{props}
use Rattle.std.proofs.lemmas.Option.{same_Some}
use Rattle.algebra.specs.Meaning.{Meaning}
use Rattle.algebra.specs.Laws.{Laws, InverseOf}
use Rattle.codes.specs.Code.{Code}
use Rattle.codes.specs.Checked.{Checked}

answer_prop : (m : Meaning) (a : ℕ)
    → IsProp ((b : ℕ) × (m.inverse a ≡ Some b) × InverseOf m.arithmetic a b)
answer_prop m a u v =
    let at : ℕ → Type 0 = λ b. (m.inverse a ≡ Some b) × InverseOf m.arithmetic a b in
    let same : Path ((b : ℕ) × at b) (u.0, (u.1, u.2)) (v.0, (v.1, v.2)) = Σ_prop_path
    (λ b. hlevel props) (same_Some u.0 v.0 (sym u.1 ∙ v.1)) in
    ap (λ (w : (b : ℕ) × at b). (w.0, w.1.0, w.1.1)) same

pub laws_prop : (m : Meaning) → IsProp (Laws m)
laws_prop m = hlevel (answer_prop, props)

pub checked_prop : (m : Meaning) (code : Code) → IsProp (Checked m code)
checked_prop m code = hlevel (laws_prop m, props)
