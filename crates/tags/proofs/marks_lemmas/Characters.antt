-- A loop over the marks of a text with their places: which mark a turn of it has.
use Rattle.std.proofs.Common.{◌≡◌, ℕ, ◌+◌, ◌<◌, List, length, get_or, sym, ap, ◌∙◌, arith}
use Rattle.std.specs.List.{enumerate_from}
use Rattle.std.proofs.lemmas.List.FromFn.{get_or-enumerate_from, length-enumerate_from}
use Rattle.std.proofs.lemmas.Grind.{get_or_default_zero}

-- after n turns, the turn has this mark at this place
pub record Turn (marks : List ℕ) (n place mark : ℕ) : Type 0 where
  pub within : n < length marks
  pub at : place ≡ n
  pub is : get_or marks n 0 ≡ mark

pub turn_of : (marks : List ℕ) (n place mark : ℕ) →
    (n < length (enumerate_from 0 marks)) × ((place, mark) ≡ get_or (enumerate_from 0 marks) n (place, mark)) → Turn marks n place mark
turn_of marks n place mark t =
    let within : n < length marks = omega (arith, t.0, length-enumerate_from 0 marks) in
    let e = t.1 ∙ get_or-enumerate_from 0 marks n (place, mark) within in
    let at : place ≡ 0 + n = ap (λ (p : ℕ × ℕ). p.0) e in
    record { within = within; at = omega arith; is = sym (get_or_default_zero marks n mark within) ∙ sym (ap (λ (p : ℕ × ℕ). p.1) e) }
