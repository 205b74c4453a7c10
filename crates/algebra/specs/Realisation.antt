-- Which polynomials fit a sequence, their partners, and minimal pairs. Polynomials are lists of
-- coefficients, the constant term first; past the end of a list stands 0.
use Rattle.std.specs.Prelude.{◌≡◌, ◌≢◌, ℕ, suc, ◌+◌, ◌-◌, ◌<◌, ◌≤◌, List, length, slice_index}
use Rattle.algebra.specs.Meaning.{Arithmetic}
use Rattle.algebra.specs.Power.{sum}
use Rattle.algebra.specs.Polynomial.{AllElements}

-- f has degree m: its coefficients are elements, that of X^m is not 0, and those above are 0. So f
-- is not 0.
pub record Degree (A : Arithmetic) (f : List ℕ) (m : ℕ) : Type 0 where
  pub elements : AllElements A f
  pub leads : slice_index f m ≢ 0
  pub above : (j : ℕ) → m < j → slice_index f j ≡ 0

-- f_0 × s_k + .. + f_m × s_(k+m)
abbrev pub applied : Arithmetic → List ℕ → ℕ → List ℕ → ℕ → ℕ
applied A f m s k = sum A (suc m) (λ j. A.times (slice_index f j) (slice_index s (k + j)))

-- f, of degree m, fits the sequence: it gives 0 at every place where its m + 1 coefficients find
-- numbers
abbrev pub Fits : Arithmetic → List ℕ → List ℕ → ℕ → Type 0
Fits A s f m = (k : ℕ) → k + m < length s → applied A f m s k ≡ 0

-- coefficient i of the partner of f, of degree m: the sum over all j > i of f_j × s_(j−1−i); here j
-- is i + 1 + t
abbrev pub partner : Arithmetic → List ℕ → List ℕ → ℕ → ℕ → ℕ
partner A s f m i = sum A (m - i) (λ t. A.times (slice_index f (i + 1 + t)) (slice_index s t))

-- f has degree m and fits, w is its partner, and nothing of lower degree fits
pub record Minimal (A : Arithmetic) (s : List ℕ) (m : ℕ) (f w : List ℕ) : Type 0 where
  pub degree : Degree A f m
  pub fits : Fits A s f m
  pub partners : (i : ℕ) → slice_index w i ≡ partner A s f m i
  pub lowest : (g : List ℕ) (e : ℕ) → Degree A g e → Fits A s g e → m ≤ e
