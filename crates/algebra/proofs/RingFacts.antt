-- What the laws of a ring give for its elements.
use Rattle.std.proofs.Common.{◌≡◌, ℕ, zero, suc, ◌<◌, sym, refl, ap, ◌∙◌, ap₂, arith}
use Rattle.algebra.specs.Meaning.{Arithmetic}
use Rattle.algebra.specs.Laws.{Total, RingLaws}
use Rattle.algebra.specs.Power.{times_power}
use Rattle.algebra.specs.Polynomial.{negate}
use Rattle.algebra.proofs.Lengths.{times_power_element}

module _ (A : Arithmetic) (total : Total A) (ring : RingLaws A) where
  pub zero_element : 0 < A.size
  zero_element = omega (arith, total.smallest)

  pub one_element : 1 < A.size
  one_element = total.smallest

  pub zero_plus : (a : ℕ) → a < A.size → A.plus 0 a ≡ a
  zero_plus a h = ring.plus_comm 0 a zero_element h ∙ ring.plus_zero a h

  pub one_times : (a : ℕ) → a < A.size → A.times 1 a ≡ a
  one_times a h = ring.times_comm 1 a one_element h ∙ ring.times_one a h

  -- an element and its negative add up to 0
  pub plus_negate : (a : ℕ) → a < A.size → A.plus a (negate A a) ≡ 0
  plus_negate a h = ring.plus_comm a (negate A a) h (total.minus_element 0 a) ∙ ring.minus_plus 0 a zero_element h

  -- (a + c) + (0 − c) is a
  plus_back : (a c : ℕ) → a < A.size → c < A.size → A.plus (A.plus a c) (negate A c) ≡ a
  plus_back a c ha hc =
      ring.plus_assoc a c (negate A c) ha hc (total.minus_element 0 c) ∙ ap (A.plus a) (plus_negate c hc) ∙ ring.plus_zero a ha

  pub plus_cancel : (a b c : ℕ) → a < A.size → b < A.size → c < A.size → A.plus a c ≡ A.plus b c → a ≡ b
  plus_cancel a b c ha hb hc e = sym (plus_back a c ha hc) ∙ ap (λ x. A.plus x (A.minus 0 c)) e ∙ plus_back b c hb hc

  -- a − b is the only element that added to b gives a
  pub minus_only : (a b c : ℕ) → a < A.size → b < A.size → c < A.size → A.plus c b ≡ a → c ≡ A.minus a b
  minus_only a b c ha hb hc e = plus_cancel c (A.minus a b) b hc (total.minus_element a b) hb (e ∙ sym (ring.minus_plus a b ha hb))

  pub times_zero : (a : ℕ) → a < A.size → A.times a 0 ≡ 0
  times_zero a h =
      let p = A.times a 0 in
      let hp = total.times_element a 0 in
      plus_cancel p 0 p hp zero_element hp
      (sym (ring.times_plus a 0 0 h zero_element zero_element)
      ∙ ap (A.times a) (ring.plus_zero 0 zero_element)
      ∙ sym (zero_plus p hp))

  pub zero_times : (a : ℕ) → a < A.size → A.times 0 a ≡ 0
  zero_times a h = ring.times_comm 0 a zero_element h ∙ times_zero a h

  pub plus_times : (a b c : ℕ) → a < A.size → b < A.size → c < A.size → A.times (A.plus a b) c ≡ A.plus (A.times a c) (A.times b c)
  plus_times a b c ha hb hc =
      ring.times_comm (A.plus a b) c (total.plus_element a b) hc
      ∙ ring.times_plus c a b hc ha hb
      ∙ ap₂ A.plus (ring.times_comm c a hc ha) (ring.times_comm c b hc hb)

  pub minus_self : (a : ℕ) → a < A.size → A.minus a a ≡ 0
  minus_self a h = sym (minus_only a a 0 h h zero_element (zero_plus a h))

  -- the negative of a negative, and of a factor
  pub negate_negate : (a : ℕ) → a < A.size → negate A (negate A a) ≡ a
  negate_negate a h = sym (minus_only 0 (negate A a) a zero_element (total.minus_element 0 a) h (plus_negate a h))

  negate_times : (a b : ℕ) → a < A.size → b < A.size → A.times (negate A a) b ≡ negate A (A.times a b)
  negate_times a b ha hb =
      let hn = total.minus_element 0 a in
      minus_only 0 (A.times a b) (A.times (negate A a) b) zero_element (total.times_element a b) (total.times_element (negate A a) b)
      (sym (plus_times (negate A a) a b hn ha hb) ∙ ap (λ x. A.times x b) (ring.minus_plus 0 a zero_element ha) ∙ zero_times b hb)

  pub times_power_negate : (x a k : ℕ) → x < A.size → a < A.size → times_power A (negate A x) a k ≡ negate A (times_power A x a k)
  times_power_negate x a zero hx ha = refl
  times_power_negate x a (suc k) hx ha =
      ap (λ z. A.times z a) (times_power_negate x a k hx ha) ∙ negate_times (times_power A x a k) a (times_power_element total x a k hx) ha

  -- an element has at most one inverse
  pub inverse_only : (a b c : ℕ) → a < A.size → b < A.size → c < A.size → A.times a b ≡ 1 → A.times a c ≡ 1 → c ≡ b
  inverse_only a b c ha hb hc eb ec =
      sym (ring.times_one c hc)
      ∙ ap (A.times c) (sym eb)
      ∙ sym (ring.times_assoc c a b hc ha hb)
      ∙ ap (λ x. A.times x b) (ring.times_comm c a hc ha ∙ ec)
      ∙ one_times b hb
