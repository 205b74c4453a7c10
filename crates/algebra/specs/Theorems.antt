-- What is proved of every ring and of every field, about numbers. In all of it A is the arithmetic,
-- a gives the locator of each place, h its column multiplier, and E is a list of places below n.
use Rattle.std.specs.Prelude.{◌≡◌, ℕ, ◌<◌, ◌≤◌, cond, List, map, length, ◌≢◌, slice_index}
use Rattle.algebra.specs.Meaning.{Arithmetic, Meaning}
use Rattle.algebra.specs.Power.{times_power, power, sum}
use Rattle.algebra.specs.Places.{Member, Distinct, member, without, weight, distance}
use Rattle.algebra.specs.Polynomial.{AllElements, negate, evaluate, annihilator, quotient_linear, act, divide}

-- the values below n are elements
abbrev pub Elements : Arithmetic → ℕ → (ℕ → ℕ) → Type 0
Elements A n f = (i : ℕ) → i < n → f i < A.size

-- a gives distinct elements at the places below n
pub record Locators (A : Arithmetic) (n : ℕ) (a : ℕ → ℕ) : Type 0 where
  pub element : Elements A n a
  pub distinct : (i j : ℕ) → i < n → j < n → a i ≡ a j → i ≡ j

-- h gives elements other than 0 at the places below n
pub record Multipliers (A : Arithmetic) (n : ℕ) (h : ℕ → ℕ) : Type 0 where
  pub element : Elements A n h
  pub nonzero : (i : ℕ) → i < n → h i ≢ 0

-- E is a list of distinct places below n
pub record DistinctPlaces (n : ℕ) (E : List ℕ) : Type 0 where
  pub below : (j : ℕ) → Member j E → j < n
  pub distinct : Distinct E

-- x a^k is the product of x and a^k
abbrev pub TimesPowerIs : Arithmetic → Type 0
TimesPowerIs A = (x a k : ℕ) → x < A.size → times_power A x a k ≡ A.times x (power A a k)

-- every order of the places gives the same sum: p is a permutation of the places below n, and q
-- undoes it
abbrev pub Reordering : Arithmetic → Type 0
Reordering A =
    (n : ℕ) (f p q : ℕ → ℕ) → Elements A n f → ((i : ℕ) → i < n → p i < n)
    → ((i : ℕ) → i < n → q i < n) → ((i : ℕ) → i < n → q (p i) ≡ i)
    → ((i : ℕ) → i < n → p (q i) ≡ i) → sum A n (λ i. f (p i)) ≡ sum A n f

-- p(x) = p(a) + (x − a) q(x), with q the quotient of p by X − a
abbrev pub Division : Arithmetic → Type 0
Division A =
    (a x : ℕ) (p : List ℕ) → a < A.size → x < A.size → AllElements A p
    → evaluate A p x
    ≡ A.plus (evaluate A p a) (A.times (A.minus x a) (evaluate A (quotient_linear A a p) x))

-- the annihilator of a list of points has leading coefficient 1
abbrev pub AnnihilatorMonic : Arithmetic → Type 0
AnnihilatorMonic A =
    (points : List ℕ) → ((i : ℕ) → Member i points → i < A.size)
    → slice_index (annihilator A points) (length points) ≡ 1

-- and it is 0 at each of its points
abbrev pub AnnihilatorRoots : Arithmetic → Type 0
AnnihilatorRoots A =
    (points : List ℕ) → ((i : ℕ) → Member i points → i < A.size) → (x : ℕ) → Member x points
    → evaluate A (annihilator A points) x ≡ 0

-- in a field it is 0 at its points only
abbrev pub AnnihilatorRootsOnly : Meaning → Type 0
AnnihilatorRootsOnly m =
    (points : List ℕ) → ((i : ℕ) → Member i points → i < m.arithmetic.size)
    → (x : ℕ) → x < m.arithmetic.size
    → evaluate m.arithmetic (annihilator m.arithmetic points) x ≡ 0 → Member x points

-- weights x with at most r places other than 0, whose sums Σ x_i a_i^k are 0 for every k below r,
-- are all 0
abbrev pub Kernel : Meaning → Type 0
Kernel m =
    (n r : ℕ) (a x : ℕ → ℕ) → Locators m.arithmetic n a → Elements m.arithmetic n x →
    weight n x ≤ r →
    ((k : ℕ) → k < r → sum m.arithmetic n (λ i. times_power m.arithmetic (x i) (a i) k) ≡ 0) →
    (i : ℕ) → i < n → x i ≡ 0

-- a polynomial with at most n coefficients that is 0 at n distinct points has every coefficient 0
abbrev pub RootCount : Meaning → Type 0
RootCount m =
    (n : ℕ) (a : ℕ → ℕ) (p : List ℕ) → Locators m.arithmetic n a → AllElements m.arithmetic p
    → length p ≤ n → ((i : ℕ) → i < n → evaluate m.arithmetic p (a i) ≡ 0)
    → (k : ℕ) → slice_index p k ≡ 0

-- the product of X − a_i over the places i of E other than j, as a quotient
abbrev pub cofactor : Arithmetic → (ℕ → ℕ) → List ℕ → ℕ → List ℕ
cofactor A a E j = quotient_linear A (a j) (annihilator A (map a E))

-- the cofactor is the annihilator of the other places
abbrev pub CofactorIs : Arithmetic → Type 0
CofactorIs A =
    (a : ℕ → ℕ) (E : List ℕ) → ((i : ℕ) → Member i E → a i < A.size) → Distinct E
    → (j : ℕ) → Member j E → cofactor A a E j ≡ annihilator A (map a (without j E))

-- the polynomial p with at most |E| coefficients is Σ p(a_j) / P_j(a_j) P_j over j in E, with P_j
-- the cofactors
abbrev pub Interpolation : Meaning → Type 0
Interpolation m =
    (n : ℕ) (a : ℕ → ℕ) (E p : List ℕ) → Locators m.arithmetic n a → DistinctPlaces n E
    → AllElements m.arithmetic p → length p ≤ length E → (k : ℕ) → k < length E
    → slice_index p k
    ≡ sum m.arithmetic n
    (λ j. cond (member j E)
    (m.arithmetic.times
    (divide m (evaluate m.arithmetic p (a j))
    (evaluate m.arithmetic (cofactor m.arithmetic a E j) (a j)))
    (slice_index (cofactor m.arithmetic a E j) k)) 0)

-- weights at E whose power sums are y_0, y_1, ..
abbrev pub solution : Meaning → (ℕ → ℕ) → List ℕ → (ℕ → ℕ) → ℕ → ℕ
solution m a E y j =
    divide m (act m.arithmetic (cofactor m.arithmetic a E j) y 0)
    (evaluate m.arithmetic (cofactor m.arithmetic a E j) (a j))

-- |E| points reach every |E| right sides
abbrev pub Surjectivity : Meaning → Type 0
Surjectivity m =
    (n : ℕ) (a y : ℕ → ℕ) (E : List ℕ) → Locators m.arithmetic n a → DistinctPlaces n E
    → Elements m.arithmetic (length E) y → (k : ℕ) → k < length E
    → sum m.arithmetic n
    (λ j. cond (member j E) (times_power m.arithmetic (solution m a E y j) (a j) k) 0)
    ≡ y k

-- the sum Σ v_j h_j a_j^k of a word v
abbrev pub word_sum : Arithmetic → ℕ → (ℕ → ℕ) → (ℕ → ℕ) → (ℕ → ℕ) → ℕ → ℕ
word_sum A n a h v k = sum A n (λ j. times_power A (A.times (v j) (h j)) (a j) k)

-- the same over the places outside E
abbrev pub noted_sum : Arithmetic → ℕ → (ℕ → ℕ) → (ℕ → ℕ) → List ℕ → (ℕ → ℕ) → ℕ → ℕ
noted_sum A n a h E v k =
    sum A n (λ j. cond (member j E) 0 (times_power A (A.times (v j) (h j)) (a j) k))

-- every order of the cells gives the same sums
abbrev pub WordReordering : Arithmetic → Type 0
WordReordering A =
    (n k : ℕ) (a h v p q : ℕ → ℕ)
    → ((i : ℕ) → i < n → p i < n) → ((i : ℕ) → i < n → q i < n)
    → ((i : ℕ) → i < n → q (p i) ≡ i) → ((i : ℕ) → i < n → p (q i) ≡ i)
    → word_sum A n (λ i. a (p i)) (λ i. h (p i)) (λ i. v (p i)) k ≡ word_sum A n a h v k

-- two words with r sums 0 that differ in at most r places are equal
abbrev pub Distance : Meaning → Type 0
Distance m =
    (n r : ℕ) (a h v w : ℕ → ℕ) → Locators m.arithmetic n a → Multipliers m.arithmetic n h
    → Elements m.arithmetic n v → Elements m.arithmetic n w → distance n v w ≤ r
    → ((k : ℕ) → k < r → word_sum m.arithmetic n a h v k ≡ 0)
    → ((k : ℕ) → k < r → word_sum m.arithmetic n a h w k ≡ 0)
    → (i : ℕ) → i < n → v i ≡ w i

-- the letter at the erased place j from the sums S over the places outside E: −(Σ_k P_k S_k) / (h_j
-- P(a_j)), P the cofactor of j
abbrev pub erased_letter : Meaning → (ℕ → ℕ) → (ℕ → ℕ) → List ℕ → (ℕ → ℕ) → ℕ → ℕ
erased_letter m a h E S j =
    divide m (negate m.arithmetic (act m.arithmetic (cofactor m.arithmetic a E j) S 0))
    (m.arithmetic.times (h j) (evaluate m.arithmetic (cofactor m.arithmetic a E j) (a j)))

-- with at most r erased places, a word with r sums 0 that has the letters u outside E has these
-- letters at E
abbrev pub FillingOnly : Meaning → Type 0
FillingOnly m =
    (n r : ℕ) (a h u v : ℕ → ℕ) (E : List ℕ) → Locators m.arithmetic n a
    → Multipliers m.arithmetic n h → Elements m.arithmetic n v → DistinctPlaces n E → length E ≤ r
    → ((k : ℕ) → k < r → word_sum m.arithmetic n a h v k ≡ 0)
    → ((j : ℕ) → j < n → (Member j E → ⊥) → u j ≡ v j) → (j : ℕ) → Member j E
    → v j ≡ erased_letter m a h E (noted_sum m.arithmetic n a h E u) j

-- with as many erased places as sums, these letters make all sums 0, whatever the letters u outside
-- E are
abbrev pub FillingMakes : Meaning → Type 0
FillingMakes m =
    (n : ℕ) (a h u : ℕ → ℕ) (E : List ℕ)
    → Locators m.arithmetic n a → Multipliers m.arithmetic n h
    → ((j : ℕ) → j < n → (Member j E → ⊥) → u j < m.arithmetic.size) → DistinctPlaces n E
    → (k : ℕ) → k < length E
    → word_sum m.arithmetic n a h
    (λ j. cond (member j E) (erased_letter m a h E (noted_sum m.arithmetic n a h E u) j) (u j))
    k ≡ 0
