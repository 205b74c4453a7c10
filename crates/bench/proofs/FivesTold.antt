-- The data letters, written one after another.
use Rattle.std.proofs.Common.{◌≡◌, ℕ, ◌+◌, ◌*◌, ◌<◌, List, length, get_or, set, sym, subst, ⊎_elim, ◌∙◌, arith}
use Rattle.std.proofs.lemmas.Bool.{cases_eq}
use Rattle.std.proofs.lemmas.List.{get_or-set_same, get_or-set_other, length-set}

-- there are 48 letters, and those below place j are written
pub record FivesTold (letters : List ℕ) (j : ℕ) : Type 0 where
  pub count : length letters ≡ 48
  pub each : (k : ℕ) → k < j → get_or letters k 0 ≡ 5 * k

pub fives_more : (letters : List ℕ) (j : ℕ) → j < 48 → FivesTold letters j → FivesTold (set letters j (5 * j)) (j + 1)
fives_more letters j within told = record {
  count = length-set letters j (5 * j) ∙ told.count;
  each = λ k below. ⊎_elim
      (λ same. subst (λ (i : ℕ). get_or (set letters j (5 * j)) i 0 ≡ 5 * i) (sym same) (get_or-set_same letters j (5 * j) 0 (omega (arith, told.count))))
      (λ other. get_or-set_other letters j k (5 * j) 0 other ∙ told.each k (omega arith))
      (cases_eq k j);
}
