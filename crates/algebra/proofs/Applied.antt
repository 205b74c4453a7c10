-- Polynomials of numbers applied to a sequence.
use Rattle.std.proofs.Common.{◌≡◌, ℕ, suc, ◌+◌, ◌≤◌, List, map, length, get_or, take, sym, ap, ◌∙◌, arith}
use lib.ListN.{length-map}
use Rattle.std.proofs.lemmas.List.{get_or-take}
use Rattle.algebra.specs.Meaning.{Arithmetic}
use Rattle.algebra.specs.Laws.{Total, RingLaws}
use Rattle.algebra.specs.Polynomial.{AllElements, act}
use Rattle.algebra.specs.Realisation.{applied}
use Rattle.algebra.proofs.Terms.{sum_cong}
use Rattle.algebra.proofs.rings.Sums.{Σ_cong}
use Rattle.algebra.proofs.rings.Polynomials
use Rattle.algebra.proofs.rings.Convolutions.{conv}
use Rattle.algebra.proofs.elements.Carrier.{Lawful, ring, lift, coefficients_up, act_up}
use Rattle.algebra.proofs.elements.Realisations.{lifted, value_lifted, coeff_lifted, applied_is}

-- only the first m + 1 coefficients are applied
pub applied_take : (A : Arithmetic) (f s : List ℕ) (m k : ℕ) → applied A (take (suc m) f) m s k ≡ applied A f m s k
applied_take A f s m k = sum_cong A (suc m) _ _ (λ j h. ap (λ x. A.times x (get_or s (k + j) 0)) (get_or-take (suc m) f j 0 h))

-- a list of at most m + 1 coefficients acts on the sequence as it is applied to it
module _ {A : Arithmetic} (total : Total A) (laws : RingLaws A) (p s : List ℕ) (hp : AllElements A p) (hs : AllElements A s) where
  abbrev W : Lawful A
  W = record { total = total; ring = laws }

  open ring W use {◌⊗◌}

  infixl 70 ◌⊗◌
  pub act_applied : (m k : ℕ) → length p ≤ suc m → act A p (λ i. get_or s i 0) k ≡ applied A p m s k
  unfolding conv
  act_applied m k short =
      ap (λ q. act A q (λ i. get_or s i 0) k) (coefficients_up W p hp)
      ∙ act_up W (map (lift W) p) _ (lifted W s) k (λ i _. sym (value_lifted W s hs (k + i)))
      ∙ ap (λ x. x.0)
      (Polynomials.act_sum (ring W) (suc m) (map (lift W) p) (lifted W s) k (omega (arith, length-map p (lift W)))
      ∙ Σ_cong (ring W) (suc m) _ _ (λ j _. ap (λ z. z ⊗ lifted W s (k + j)) (coeff_lifted W p hp j)))
      ∙ sym (applied_is W p s hp hs m k)
