-- The sums of a word with column multipliers, over all places and over those that are not erased; the modified sums;
-- errors.
use Rattle.std.proofs.Common.{ℕ, cond, List, map}
use Rattle.algebra.specs.Places.{member}
use Rattle.algebra.proofs.rings.Ring.{CommutativeRing}
use Rattle.algebra.proofs.rings.Sums.{Σ}
use Rattle.algebra.proofs.rings.Polynomials.{pow, act, annihilator}

module _ {A : Type 0} (R : CommutativeRing A) where
  open R use {𝟘, ◌⊕◌, ◌⊗◌, ⊖◌}

  infixl 60 ◌⊕◌
  infixl 70 ◌⊗◌
  infixr 80 ⊖◌
  -- Σ v_i h_i a_i^k
  abbrev pub syndrome : ℕ → (ℕ → A) → (ℕ → A) → (ℕ → A) → ℕ → A
  syndrome n a h v k = Σ R n (λ i. (v i ⊗ h i) ⊗ pow R (a i) k)

  -- the same over the places outside E
  abbrev pub noted : ℕ → (ℕ → A) → (ℕ → A) → List ℕ → (ℕ → A) → ℕ → A
  noted n a h E u k = Σ R n (λ i. cond (member i E) 𝟘 ((u i ⊗ h i) ⊗ pow R (a i) k))

  -- what the annihilator of the erased places makes of these
  abbrev pub modified : ℕ → (ℕ → A) → (ℕ → A) → List ℕ → (ℕ → A) → ℕ → A
  modified n a h E u k = act R (annihilator R (map a E)) (noted n a h E u) k

  -- the error of u against c at a place outside E
  abbrev pub error : List ℕ → (ℕ → A) → (ℕ → A) → ℕ → A
  error E u c j = cond (member j E) 𝟘 (u j ⊕ ⊖ c j)
