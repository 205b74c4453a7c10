-- The bytes of a number, one, two or three of them.
use Rattle.std.proofs.Common.{◌≡◌, ℕ, ◌+◌, ◌*◌, ◌/◌, ◌%◌, ◌<◌, ◌≤◌, ltb, ◌⊎◌, List, [], ◌∷◌, ◌++◌, length, get_or, drop, sym, refl, ap, ◌∙◌, inl, inr, ⊎_elim, arith}
use Rattle.std.proofs.lemmas.List.{drop_at}
use Rattle.std.proofs.lemmas.Bool.{cases_lt, lt-ltb, le-ltb, cond-true, cond-false}
use Rattle.tray_file.specs.number.Numbers.{largest_number, number_bytes}
use Rattle.tray_file.specs.number.NumberReading.{StandsFirst, EndsInside, NoNumber}

pub record OneByte (v : ℕ) : Type 0 where
  pub low : v < 128
  pub is : number_bytes v ≡ v ∷ []

pub record TwoBytes (v a b : ℕ) : Type 0 where
  pub group : a < 128
  pub more : 0 < b
  pub last : b < 128
  pub value : v ≡ a + 128 * b
  pub is : number_bytes v ≡ (128 + a) ∷ b ∷ []

pub record ThreeBytes (v a b c : ℕ) : Type 0 where
  pub first : a < 128
  pub second : b < 128
  pub more : 0 < c
  pub value : v ≡ a + 128 * (b + 128 * c)
  pub is : number_bytes v ≡ (128 + a) ∷ (128 + b) ∷ c ∷ []

abbrev pub Bytes : ℕ → Type 0
Bytes v = OneByte v ⊎ (TwoBytes v (v % 128) (v / 128) ⊎ ThreeBytes v (v % 128) (v / 128 % 128) (v / 128 / 128))

pub one_byte : (v : ℕ) → v < 128 → OneByte v
unfolding number_bytes
one_byte v h = record { low = h; is = cond-true (ltb v 128) _ _ (lt-ltb v 128 h) }

two_groups : (v : ℕ) → 128 ≤ v → v / 128 < 128 → number_bytes v ≡ (128 + v % 128) ∷ (v / 128) ∷ []
unfolding number_bytes
two_groups v h low =
    cond-false (ltb v 128) _ _ (le-ltb v 128 h)
    ∙ ap (λ (l : List ℕ). (128 + v % 128) ∷ l) (cond-true (ltb (v / 128) 128) _ _ (lt-ltb (v / 128) 128 low))

three_groups : (v : ℕ) → 128 ≤ v → 128 ≤ v / 128 → number_bytes v ≡ (128 + v % 128) ∷ (128 + v / 128 % 128) ∷ (v / 128 / 128) ∷ []
unfolding number_bytes
three_groups v h high =
    cond-false (ltb v 128) _ _ (le-ltb v 128 h)
    ∙ ap (λ (l : List ℕ). (128 + v % 128) ∷ l) (cond-false (ltb (v / 128) 128) _ _ (le-ltb (v / 128) 128 high))

pub bytes_of : (v : ℕ) → Bytes v
bytes_of v =
    ⊎_elim (λ low. inl (one_byte v low))
    (λ high. ⊎_elim
    (λ low. inr (inl (record { group = omega arith; more = omega arith; last = low; value = omega arith; is = two_groups v high low })))
    (λ more. inr (inr (record { first = omega arith; second = omega arith; more = omega arith; value = omega arith; is = three_groups v high more })))
    (cases_lt (v / 128) 128))
    (cases_lt v 128)

pub two_bytes : (a b : ℕ) → a < 128 → 0 < b → b < 128 → number_bytes (a + 128 * b) ≡ (128 + a) ∷ b ∷ []
two_bytes a b ha hb lb =
    let v = a + 128 * b in
    let q : v / 128 ≡ b = omega arith in
    let m : v % 128 ≡ a = omega arith in
    two_groups v (omega arith) (omega arith) ∙ ap (λ x. (128 + x) ∷ (v / 128) ∷ []) m ∙ ap (λ x. (128 + a) ∷ x ∷ []) q

pub three_bytes : (a b c : ℕ) → a < 128 → b < 128 → 0 < c →
    number_bytes (a + 128 * (b + 128 * c)) ≡ (128 + a) ∷ (128 + b) ∷ c ∷ []
three_bytes a b c ha hb hc =
    let w = b + 128 * c in
    let v = a + 128 * w in
    let q : v / 128 ≡ w = omega arith in
    let m : v % 128 ≡ a = omega arith in
    let qm : w % 128 ≡ b = omega arith in
    let qq : w / 128 ≡ c = omega arith in
    three_groups v (omega arith) (omega arith)
    ∙ ap (λ x. (128 + x) ∷ (128 + v / 128 % 128) ∷ (v / 128 / 128) ∷ []) m
    ∙ ap (λ x. (128 + a) ∷ (128 + x % 128) ∷ (x / 128) ∷ []) q
    ∙ ap (λ x. (128 + a) ∷ (128 + x) ∷ (w / 128) ∷ []) qm
    ∙ ap (λ x. (128 + a) ∷ (128 + b) ∷ x ∷ []) qq

-- bytes that begin with the writing of a number
pub stands : (v : ℕ) (bytes rest : List ℕ) → v ≤ largest_number → bytes ≡ number_bytes v ++ rest → StandsFirst v bytes
stands v bytes rest small e = record {
  small = small;
  front = e ∙ ap (λ (l : List ℕ). number_bytes v ++ l) (sym (drop_at (number_bytes v) rest (length (number_bytes v)) refl) ∙ ap (drop (length (number_bytes v))) (sym e));
}

-- what stands first, told by the first bytes
pub record OneFirst (v : ℕ) (s : List ℕ) : Type 0 where
  pub low : get_or s 0 0 < 128
  pub value : v ≡ get_or s 0 0
  pub long : 0 < length s

pub record TwoFirst (v : ℕ) (s : List ℕ) : Type 0 where
  pub first : 128 ≤ get_or s 0 0
  pub more : 0 < get_or s 1 0
  pub low : get_or s 1 0 < 128
  pub byte : get_or s 0 0 < 256
  pub value : v + 128 ≡ get_or s 0 0 + 128 * get_or s 1 0
  pub long : 1 < length s

pub record ThreeFirst (v : ℕ) (s : List ℕ) : Type 0 where
  pub first : 128 ≤ get_or s 0 0
  pub second : 128 ≤ get_or s 1 0
  pub more : 0 < get_or s 2 0
  pub byte : get_or s 0 0 < 256
  pub byte_2 : get_or s 1 0 < 256
  pub value : v + (128 + 16384) ≡ get_or s 0 0 + 128 * get_or s 1 0 + 16384 * get_or s 2 0
  pub long : 2 < length s

pub first_bytes : (v : ℕ) (s : List ℕ) → StandsFirst v s → OneFirst v s ⊎ (TwoFirst v s ⊎ ThreeFirst v s)
first_bytes v s stood =
    let tail = drop (length (number_bytes v)) s in
    ⊎_elim
    (λ o.
    let e : s ≡ v ∷ tail = stood.front ∙ ap (λ (l : List ℕ). l ++ tail) o.is in
    let x : get_or s 0 0 ≡ v = ap (λ (l : List ℕ). get_or l 0 0) e in
    let long : length s ≡ length (v ∷ tail) = ap length e in
    inl (record { low = omega (arith, o.low); value = sym x; long = omega arith }))
    (⊎_elim
    (λ t.
    let e : s ≡ (128 + v % 128) ∷ (v / 128) ∷ tail = stood.front ∙ ap (λ (l : List ℕ). l ++ tail) t.is in
    let x : get_or s 0 0 ≡ 128 + v % 128 = ap (λ (l : List ℕ). get_or l 0 0) e in
    let y : get_or s 1 0 ≡ v / 128 = ap (λ (l : List ℕ). get_or l 1 0) e in
    let long : length s ≡ length ((128 + v % 128) ∷ (v / 128) ∷ tail) = ap length e in
    inr (inl (record { first = omega arith; more = omega (arith, t.more); low = omega (arith, t.last); byte = omega arith; value = omega arith; long = omega arith })))
    (λ t.
    let e : s ≡ (128 + v % 128) ∷ (128 + v / 128 % 128) ∷ (v / 128 / 128) ∷ tail = stood.front ∙ ap (λ (l : List ℕ). l ++ tail) t.is in
    let x : get_or s 0 0 ≡ 128 + v % 128 = ap (λ (l : List ℕ). get_or l 0 0) e in
    let y : get_or s 1 0 ≡ 128 + v / 128 % 128 = ap (λ (l : List ℕ). get_or l 1 0) e in
    let z : get_or s 2 0 ≡ v / 128 / 128 = ap (λ (l : List ℕ). get_or l 2 0) e in
    let long : length s ≡ length ((128 + v % 128) ∷ (128 + v / 128 % 128) ∷ (v / 128 / 128) ∷ tail) = ap length e in
    inr (inr (record { first = omega arith; second = omega arith; more = omega (arith, t.more); byte = omega arith; byte_2 = omega arith; value = omega arith; long = omega arith }))))
    (bytes_of v)

-- bytes that begin with two numbers begin with one
pub same_number : (v w : ℕ) (s : List ℕ) → StandsFirst v s → StandsFirst w s → v ≡ w
same_number v w s f g =
    ⊎_elim
    (λ o. ⊎_elim (λ p. omega arith) (⊎_elim (λ p. omega arith) (λ p. omega arith)) (first_bytes w s g))
    (⊎_elim
    (λ o. ⊎_elim (λ p. omega arith) (⊎_elim (λ p. omega arith) (λ p. omega arith)) (first_bytes w s g))
    (λ o. ⊎_elim (λ p. omega arith) (⊎_elim (λ p. omega arith) (λ p. omega arith)) (first_bytes w s g)))
    (first_bytes v s f)

-- where a number stands first, the bytes do not end inside one
pub not_inside : (v : ℕ) (s : List ℕ) → StandsFirst v s → EndsInside s → ⊥
not_inside v s f inside =
    ⊎_elim (λ o. omega (arith, inside.each 0 o.long))
    (⊎_elim (λ o. omega (arith, inside.each 1 o.long)) (λ o. omega (arith, inside.few)))
    (first_bytes v s f)

-- the ways in which no number stands first
pub zero_second : (s : List ℕ) → 1 < length s → 128 ≤ get_or s 0 0 → get_or s 1 0 ≡ 0 → NoNumber s
zero_second s long x y = record {
  none = λ v f. ⊎_elim (λ o. omega arith) (⊎_elim (λ o. omega arith) (λ o. omega arith)) (first_bytes v s f);
  whole = λ inside. omega (arith, inside.each 1 long);
}

pub bad_third : (s : List ℕ) → 2 < length s → 128 ≤ get_or s 0 0 → 128 ≤ get_or s 1 0 →
    ((v : ℕ) → v ≤ largest_number → ThreeFirst v s → ⊥) → NoNumber s
bad_third s long x y bad = record {
  none = λ v f. ⊎_elim (λ o. omega arith) (⊎_elim (λ o. omega arith) (bad v f.small)) (first_bytes v s f);
  whole = λ inside. omega (arith, inside.few);
}
