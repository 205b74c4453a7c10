-- What the algorithm for minimal pairs keeps from step to step. Polynomials and the sequence are
-- lists of numbers.
use Rattle.std.specs.Prelude.{◌≡◌, ◌≢◌, ℕ, suc, ◌+◌, ◌-◌, ◌<◌, ◌≤◌, cond, List, nat_lt, slice_index}
use Rattle.algebra.specs.Meaning.{Arithmetic}
use Rattle.algebra.specs.Polynomial.{AllElements}
use Rattle.algebra.specs.Realisation.{Degree, applied, partner}

-- f has degree m and fits the first i numbers of s, and w is its partner
pub record Fitting (A : Arithmetic) (s : List ℕ) (i m : ℕ) (f w : List ℕ) : Type 0 where
  pub degree : Degree A f m
  pub fits : (k : ℕ) → k + m < i → applied A f m s k ≡ 0
  pub partners : (k : ℕ) → slice_index w k ≡ partner A s f m k

-- The pair that was kept when the degree grew to m. It has no coefficient above that of X^m', and
-- what f makes of s is 0 at the places before m − 1, and D at the place m − 1. Before the degree
-- has grown, m is 0, and the pair 0, −1 is kept, whose w is by D = 1 less than its partner.
pub record Kept (A : Arithmetic) (s : List ℕ) (m m' : ℕ) (f w : List ℕ) (D : ℕ) : Type 0 where
  pub f_elements : AllElements A f
  pub w_elements : AllElements A w
  pub f_above : (j : ℕ) → m' < j → slice_index f j ≡ 0
  pub w_above : (j : ℕ) → m' < j → slice_index w j ≡ 0
  pub element : D < A.size
  pub nonzero : D ≢ 0
  pub fits : (k : ℕ) → suc k < m → applied A f m' s k ≡ 0
  pub remains : (k : ℕ) → suc k ≡ m → applied A f m' s k ≡ D
  pub partners : (k : ℕ) → 0 < m + k → slice_index w k ≡ partner A s f m' k
  pub starts : m ≡ 0 → A.minus (partner A s f m' 0) (slice_index w 0) ≡ D

-- g is a × p − b × X^d × q up to X^m, and has no coefficient above
pub record Combined (A : Arithmetic) (a : ℕ) (p : List ℕ) (b d : ℕ) (q : List ℕ) (m : ℕ)
    (g : List ℕ) : Type 0 where
  pub same : (j : ℕ) → j ≤ m
      → slice_index g j
      ≡ cond (nat_lt j d) (A.times a (slice_index p j))
      (A.minus (A.times a (slice_index p j)) (A.times b (slice_index q (j - d))))
  pub above : (j : ℕ) → m < j → slice_index g j ≡ 0
