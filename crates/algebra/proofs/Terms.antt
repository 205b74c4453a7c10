-- Sums and actions see only the terms that count.
use Rattle.std.proofs.Common.{◌≡◌, ℕ, zero, suc, ◌+◌, ◌<◌, List, [], ◌∷◌, length, refl, ap₂, add-zero, add-suc, suc-add, arith}
use Rattle.algebra.specs.Meaning.{Arithmetic}
use Rattle.algebra.specs.Power.{sum}
use Rattle.algebra.specs.Polynomial.{act}

pub sum_cong : (A : Arithmetic) (n : ℕ) (f g : ℕ → ℕ) → ((i : ℕ) → i < n → f i ≡ g i) → sum A n f ≡ sum A n g
sum_cong A zero f g e = refl
sum_cong A (suc n) f g e = ap₂ A.plus (sum_cong A n f g (λ i h. e i (omega arith))) (e n (omega arith))

pub act_cong : (A : Arithmetic) (p : List ℕ) (s t : ℕ → ℕ) (k : ℕ) → ((i : ℕ) → i < length p → s (k + i) ≡ t (k + i)) →
    act A p s k ≡ act A p t k
act_cong A [] s t k e = refl
act_cong A (c ∷ p) s t k e =
    ap₂ (λ x y. A.plus (A.times c x) y) (simp add-zero at (e 0 (omega arith)))
    (act_cong A p s t (suc k) (λ i h. simp suc-add (simp add-suc at (e (suc i) (omega arith)))))
