-- Worked examples of minimal pairs.
use Rattle.std.specs.Prelude.{◌≡◌, ℕ, List, [], ◌∷◌, length, replicate}
use Rattle.algebra.specs.Meaning.{Arithmetic}
use Rattle.fields.specs.Modulo.{modulo}
use Rattle.minimal_pairs.specs.MinimalPair.{state_after}

-- the sequence has the pair f, w, of degree m
abbrev pub HasPair : Arithmetic → List ℕ → ℕ → List ℕ → List ℕ → Type 0
HasPair A s m f w =
    let last = state_after A s (length s) in
    (last.degree ≡ m) × (last.pair.f.coeffs ≡ f) × (last.pair.w.coeffs ≡ w)

pub record WorkedPairs : Type 0 where
  -- modulo 7, the sequence 5 4 0 5 has f = 2 + X + 4X² and w = 6X
  pub modulo_seven : HasPair (modulo 7) (5 ∷ 4 ∷ 0 ∷ 5 ∷ []) 2 (2 ∷ 1 ∷ 4 ∷ replicate 62 0)
      (0 ∷ 6 ∷ replicate 63 0)
  -- the empty sequence has f = 1 and w = 0, whatever the arithmetic
  pub empty : (A : Arithmetic) → HasPair A [] 0 (1 ∷ replicate 64 0) (replicate 65 0)
