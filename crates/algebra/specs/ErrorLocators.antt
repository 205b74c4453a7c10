-- Errors and erasures: E is the list of erased places, u has the letters at the other places, and c
-- is a codeword. An error is a place outside E where u and c differ.
use Rattle.std.specs.Prelude.{◌≡◌, ℕ, suc, ◌+◌, ◌*◌, ◌<◌, ◌≤◌, Bool, true, cond, ◌⊎◌, List, map, length, ◌==◌, ◌≢◌, slice_index}
use Rattle.algebra.specs.Meaning.{Arithmetic, Meaning}
use Rattle.algebra.specs.Places.{Member, member, failures, failing}
use Rattle.algebra.specs.Polynomial.{AllElements, evaluate, annihilator, act}
use Rattle.algebra.specs.Theorems.{Elements, Locators, Multipliers, DistinctPlaces, word_sum, noted_sum, erased_letter}

-- erased, or the same in u and c
abbrev pub agrees : List ℕ → (ℕ → ℕ) → (ℕ → ℕ) → ℕ → Bool
agrees E u c j = cond (member j E) true (u j == c j)

-- the number of errors
abbrev pub errors : ℕ → List ℕ → (ℕ → ℕ) → (ℕ → ℕ) → ℕ
errors n E u c = failures n (agrees E u c)

-- c has elements as letters and r sums 0, and u has elements outside E
pub record Received (A : Arithmetic) (n r : ℕ) (a h u c : ℕ → ℕ) (E : List ℕ) : Type 0 where
  pub locators : Locators A n a
  pub multipliers : Multipliers A n h
  pub erased : DistinctPlaces n E
  pub noted : (j : ℕ) → j < n → (Member j E → ⊥) → u j < A.size
  pub letters : Elements A n c
  pub codeword : (k : ℕ) → k < r → word_sum A n a h c k ≡ 0

-- the modified syndromes: the annihilator of the erased places applied to the sums over the others
abbrev pub modified_sum : Arithmetic → ℕ → (ℕ → ℕ) → (ℕ → ℕ) → List ℕ → (ℕ → ℕ) → ℕ → ℕ
modified_sum A n a h E u k = act A (annihilator A (map a E)) (noted_sum A n a h E u) k

-- f is orthogonal to the modified syndromes, as far as r sums go
abbrev pub FitsModified : Arithmetic → ℕ → ℕ → (ℕ → ℕ) → (ℕ → ℕ) → (ℕ → ℕ)
    → List ℕ → List ℕ → Type 0
FitsModified A n r a h u E f =
    (k : ℕ) → k + length f + length E ≤ r → act A f (modified_sum A n a h E u) k ≡ 0

-- a polynomial other than 0 has fewer roots than coefficients
abbrev pub FewRoots : Meaning → Type 0
FewRoots m =
    (n k : ℕ) (a : ℕ → ℕ) (Z f : List ℕ) → Locators m.arithmetic n a → DistinctPlaces n Z
    → AllElements m.arithmetic f → ((j : ℕ) → Member j Z → evaluate m.arithmetic f (a j) ≡ 0)
    → (slice_index f k ≢ 0) → length Z < length f

-- the annihilator of any places W with all errors among them fits
abbrev pub LocatorFits : Meaning → Type 0
LocatorFits m =
    (n r : ℕ) (a h u c : ℕ → ℕ) (E W : List ℕ) → Received m.arithmetic n r a h u c E
    → DistinctPlaces n W → ((j : ℕ) → j < n → (Member j E → ⊥) → (u j ≢ c j) → Member j W)
    → FitsModified m.arithmetic n r a h u E (annihilator m.arithmetic (map a W))

-- so the annihilator of the errors themselves fits, with one coefficient more than there are errors
abbrev pub ErrorLocator : Meaning → Type 0
ErrorLocator m =
    (n r : ℕ) (a h u c : ℕ → ℕ) (E : List ℕ) → Received m.arithmetic n r a h u c E
    → (length (annihilator m.arithmetic (map a (failing n (agrees E u c)))) ≡ suc (errors n E u c))
    × FitsModified m.arithmetic n r a h u E
    (annihilator m.arithmetic (map a (failing n (agrees E u c))))

-- a polynomial that fits and has at most one coefficient more than there are errors is 0 at every
-- error
abbrev pub ErrorRoots : Meaning → Type 0
ErrorRoots m =
    (n r : ℕ) (a h u c : ℕ → ℕ) (E f : List ℕ) → Received m.arithmetic n r a h u c E
    → 2 * errors n E u c + length E ≤ r → AllElements m.arithmetic f
    → length f ≤ suc (errors n E u c) → FitsModified m.arithmetic n r a h u E f → (j : ℕ) → j < n
    → (Member j E → ⊥) → (u j ≢ c j) → evaluate m.arithmetic f (a j) ≡ 0

-- reading is complete: with the roots of such a polynomial erased too, filling gives the codeword
abbrev pub Completeness : Meaning → Type 0
Completeness m =
    (n r : ℕ) (a h u c : ℕ → ℕ) (E f F : List ℕ) → Received m.arithmetic n r a h u c E
    → 2 * errors n E u c + length E ≤ r → AllElements m.arithmetic f
    → length f ≤ suc (errors n E u c) → FitsModified m.arithmetic n r a h u E f → DistinctPlaces n F
    → length F ≤ r
    → ((j : ℕ) → j < n → (Member j E) ⊎ (evaluate m.arithmetic f (a j) ≡ 0) → Member j F)
    → (j : ℕ) → j < n
    → c j ≡ cond (member j F) (erased_letter m a h F (noted_sum m.arithmetic n a h F u) j) (u j)

-- there is at most one codeword near the letters
abbrev pub OnlyNear : Meaning → Type 0
OnlyNear m =
    (n r : ℕ) (a h u v w : ℕ → ℕ) (E : List ℕ) → Received m.arithmetic n r a h u v E
    → Received m.arithmetic n r a h u w E → errors n E u v + errors n E u w + length E ≤ r
    → (j : ℕ) → j < n → v j ≡ w j
