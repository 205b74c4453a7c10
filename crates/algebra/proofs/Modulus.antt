-- Remainders after division by a modulus that has no factors make a field, with one inverse for each element other
-- than 0: said once, for whole numbers and for polynomials.
use Rattle.std.proofs.Common.{◌≡◌, ℕ, zero, suc, ◌<◌, ◌≤◌, sym, ap, ◌∙◌, ap₂, ⊎_elim, arith}
use mathlib.Core.Path.{subst⁻¹}
use Rattle.std.proofs.lemmas.Bool.{cases_eq}
use Rattle.algebra.specs.Meaning.{Arithmetic, arithmetic_of, with_inverses}
use Rattle.algebra.specs.Limits.{largest_size}
use Rattle.algebra.specs.Laws.{Total, RingLaws, InverseLaws, Laws}
use Rattle.algebra.specs.Modulus.{Modulus}
use Rattle.algebra.proofs.OnElements.{on_elements_inside, on_elements_outside, on_elements_below}
use Rattle.algebra.proofs.RingFacts.{plus_cancel, plus_times, zero_times}
use Rattle.algebra.proofs.Inverses.{inverse_laws}

module _ {size : ℕ} {plus minus times : ℕ → ℕ → ℕ} (M : Modulus size plus minus times) where
  abbrev A : Arithmetic
  A = arithmetic_of size plus minus times

  positive : 0 < size
  positive = omega (arith, M.smallest)

  -- the operations inside the elements
  plus_at : (a b : ℕ) → a < size → b < size → A.plus a b ≡ M.reduce (M.add a b)
  plus_at a b ha hb = on_elements_inside size plus a b ha hb ∙ M.plus_is a b ha hb

  pub times_at : (a b : ℕ) → a < size → b < size → A.times a b ≡ M.reduce (M.mul a b)
  times_at a b ha hb = on_elements_inside size times a b ha hb ∙ M.times_is a b ha hb

  minus_at : (a b : ℕ) → a < size → b < size → A.minus a b ≡ minus a b
  minus_at a b ha hb = on_elements_inside size minus a b ha hb

  below : (op : ℕ → ℕ → ℕ) (full : ℕ → ℕ → ℕ) → ((a b : ℕ) → a < size → b < size → op a b ≡ M.reduce (full a b)) → (a b : ℕ) → a < size → b < size → op a b < size
  below op full is a b ha hb = subst⁻¹ (λ (x : ℕ). x < size) (is a b ha hb) (M.reduce_below (full a b))

  pub modulus_total : Total A
  modulus_total = record {
    smallest = M.smallest;
    plus_element = on_elements_below size plus positive (below plus M.add M.plus_is);
    minus_element = on_elements_below size minus positive M.minus_below;
    times_element = on_elements_below size times positive (below times M.mul M.times_is);
    plus_outside = on_elements_outside size plus;
    minus_outside = on_elements_outside size minus;
    times_outside = on_elements_outside size times;
  }

  reduce_add_right : (x y : ℕ) → M.reduce (M.add x (M.reduce y)) ≡ M.reduce (M.add x y)
  reduce_add_right x y = ap M.reduce (M.add_comm x (M.reduce y)) ∙ M.reduce_add y x ∙ ap M.reduce (M.add_comm y x)

  reduce_mul_right : (x y : ℕ) → M.reduce (M.mul x (M.reduce y)) ≡ M.reduce (M.mul x y)
  reduce_mul_right x y = ap M.reduce (M.mul_comm x (M.reduce y)) ∙ M.reduce_mul y x ∙ ap M.reduce (M.mul_comm y x)

  -- (a ∘ b) ∘ c and a ∘ (b ∘ c) are the remainders of the full results
  plus_left : (a b c : ℕ) → a < size → b < size → c < size → A.plus (A.plus a b) c ≡ M.reduce (M.add (M.add a b) c)
  plus_left a b c ha hb hc = plus_at (A.plus a b) c (modulus_total.plus_element a b) hc ∙ ap (λ x. M.reduce (M.add x c)) (plus_at a b ha hb) ∙ M.reduce_add (M.add a b) c

  plus_right : (a b c : ℕ) → a < size → b < size → c < size → A.plus a (A.plus b c) ≡ M.reduce (M.add a (M.add b c))
  plus_right a b c ha hb hc = plus_at a (A.plus b c) ha (modulus_total.plus_element b c) ∙ ap (λ x. M.reduce (M.add a x)) (plus_at b c hb hc) ∙ reduce_add_right a (M.add b c)

  times_left : (a b c : ℕ) → a < size → b < size → c < size → A.times (A.times a b) c ≡ M.reduce (M.mul (M.mul a b) c)
  times_left a b c ha hb hc = times_at (A.times a b) c (modulus_total.times_element a b) hc ∙ ap (λ x. M.reduce (M.mul x c)) (times_at a b ha hb) ∙ M.reduce_mul (M.mul a b) c

  times_right : (a b c : ℕ) → a < size → b < size → c < size → A.times a (A.times b c) ≡ M.reduce (M.mul a (M.mul b c))
  times_right a b c ha hb hc = times_at a (A.times b c) ha (modulus_total.times_element b c) ∙ ap (λ x. M.reduce (M.mul a x)) (times_at b c hb hc) ∙ reduce_mul_right a (M.mul b c)

  distribute : (a b c : ℕ) → a < size → b < size → c < size → A.times a (A.plus b c) ≡ A.plus (A.times a b) (A.times a c)
  distribute a b c ha hb hc =
      times_at a (A.plus b c) ha (modulus_total.plus_element b c)
      ∙ ap (λ x. M.reduce (M.mul a x)) (plus_at b c hb hc)
      ∙ reduce_mul_right a (M.add b c)
      ∙ ap M.reduce (M.mul-add a b c)
      ∙ sym (plus_at (A.times a b) (A.times a c) (modulus_total.times_element a b) (modulus_total.times_element a c)
      ∙ ap₂ (λ x y. M.reduce (M.add x y)) (times_at a b ha hb) (times_at a c ha hc)
      ∙ M.reduce_add (M.mul a b) (M.reduce (M.mul a c))
      ∙ reduce_add_right (M.mul a b) (M.mul a c))

  pub modulus_ring : RingLaws A
  modulus_ring = record {
    plus_assoc = λ a b c ha hb hc. plus_left a b c ha hb hc ∙ ap M.reduce (M.add_assoc a b c) ∙ sym (plus_right a b c ha hb hc);
    plus_comm = λ a b ha hb. plus_at a b ha hb ∙ ap M.reduce (M.add_comm a b) ∙ sym (plus_at b a hb ha);
    plus_zero = λ a ha. plus_at a 0 ha positive ∙ ap M.reduce (M.add-zero a) ∙ M.reduce_small a ha;
    times_assoc = λ a b c ha hb hc. times_left a b c ha hb hc ∙ ap M.reduce (M.mul_assoc a b c) ∙ sym (times_right a b c ha hb hc);
    times_comm = λ a b ha hb. times_at a b ha hb ∙ ap M.reduce (M.mul_comm a b) ∙ sym (times_at b a hb ha);
    times_one = λ a ha. times_at a 1 ha M.smallest ∙ ap M.reduce (M.mul-one a) ∙ M.reduce_small a ha;
    times_plus = distribute;
    minus_plus = λ a b ha hb. ap (λ x. A.plus x b) (minus_at a b ha hb) ∙ on_elements_inside size plus (minus a b) b (M.minus_below a b ha hb) hb ∙ M.minus_is a b ha hb;
  }

  -- The modulus is q · a + r, so q · a + r is 0 among the remainders. Where r × b = 1, (q × b) × a + 1 is 0 too.
  product_with_rest : (a b : ℕ) → 0 < a → a < size → b < size → A.times (M.rest a) b ≡ 1 → A.plus (A.times (A.times (M.reduce (M.quotient a)) b) a) 1 ≡ 0
  product_with_rest a b pa ha hb e =
      let hr : M.rest a < size = omega (arith, M.rest_smaller a pa) in
      let q = M.quotient a in
      let hq = M.reduce_below q in
      let hqb = modulus_total.times_element (M.reduce q) b in
      let turned : A.times (A.times (M.reduce q) b) a ≡ M.reduce (M.mul (M.mul q a) b) =
      times_left (M.reduce q) b a hq hb ha
      ∙ ap M.reduce (M.mul_assoc (M.reduce q) b a ∙ ap (M.mul (M.reduce q)) (M.mul_comm b a))
      ∙ M.reduce_mul q (M.mul a b)
      ∙ ap M.reduce (sym (M.mul_assoc q a b)) in
      let whole : M.reduce (M.add (M.mul (M.mul q a) b) (M.mul (M.rest a) b)) ≡ 0 =
      ap M.reduce (ap₂ M.add (M.mul_comm (M.mul q a) b) (M.mul_comm (M.rest a) b) ∙ sym (M.mul-add b (M.mul q a) (M.rest a)) ∙ M.mul_comm b _)
      ∙ ap (λ x. M.reduce (M.mul x b)) (sym (M.division a pa))
      ∙ sym (M.reduce_mul M.modulus b)
      ∙ ap (λ x. M.reduce (M.mul x b)) M.reduce_modulus
      ∙ ap M.reduce (M.mul_comm 0 b ∙ M.mul-zero b)
      ∙ M.reduce_small 0 positive in
      ap (A.plus (A.times (A.times (M.reduce q) b) a)) (sym e)
      ∙ plus_at _ _ (modulus_total.times_element _ a) (modulus_total.times_element (M.rest a) b)
      ∙ ap₂ (λ x y. M.reduce (M.add x y)) turned (times_at (M.rest a) b hr hb)
      ∙ M.reduce_add (M.mul (M.mul q a) b) (M.reduce (M.mul (M.rest a) b))
      ∙ reduce_add_right (M.mul (M.mul q a) b) (M.mul (M.rest a) b)
      ∙ whole

  -- where n × a + 1 is 0, the inverse of a is 0 − n
  opposite_inverts : (a n : ℕ) → a < size → n < size → A.plus (A.times n a) 1 ≡ 0 → A.times a (A.minus 0 n) ≡ 1
  opposite_inverts a n ha hn e =
      let o = A.minus 0 n in
      let ho = modulus_total.minus_element 0 n in
      let ring = modulus_ring in
      let sums : A.plus (A.times o a) (A.times n a) ≡ 0 =
      sym (plus_times A modulus_total ring o n a ho hn ha)
      ∙ ap (λ x. A.times x a) (ring.minus_plus 0 n positive hn)
      ∙ zero_times A modulus_total ring a ha in
      ring.times_comm a o ha ho
      ∙ plus_cancel A modulus_total ring (A.times o a) 1 (A.times n a) (modulus_total.times_element o a) M.smallest (modulus_total.times_element n a)
      (sums ∙ sym e ∙ ring.plus_comm (A.times n a) 1 (modulus_total.times_element n a) M.smallest)

  abbrev Inverse : ℕ → Type 0
  Inverse a = (b : ℕ) × (b < size) × (A.times a b ≡ 1)

  from_rest : (a : ℕ) → 0 < a → a < size → Inverse (M.rest a) → Inverse a
  from_rest a pa ha (b, hb, e) =
      let n = A.times (M.reduce (M.quotient a)) b in
      (A.minus 0 n, modulus_total.minus_element 0 n, opposite_inverts a n ha (modulus_total.times_element _ b) (product_with_rest a b pa ha hb e))

  -- one step of the induction on a: the rest of the modulus after division by a is smaller than a, and not 0
  step : (a : ℕ) → 0 < a → a < size → ((r : ℕ) → r < a → 0 < r → Inverse r) → Inverse a
  step a pa ha smaller = ⊎_elim one more (cases_eq a 1)
    where
      one : a ≡ 1 → Inverse a
      one is = (1, M.smallest, ap (λ x. A.times x 1) is ∙ modulus_ring.times_one 1 M.smallest)

      more : (a ≡ 1 → ⊥) → Inverse a
      more not-one =
          let nonzero = M.no_factor a (omega arith) ha in
          from_rest a pa ha (smaller (M.rest a) (M.rest_smaller a pa) (omega arith))

  inverse_below : (fuel a : ℕ) → a ≤ fuel → 0 < a → a < size → Inverse a
  inverse_below zero a h pa ha = absurd (omega arith)
  inverse_below (suc fuel) a h pa ha = step a pa ha (λ r hr pr. inverse_below fuel r (omega arith) pr (omega arith))

  pub modulus_inverses : InverseLaws (with_inverses A)
  modulus_inverses = inverse_laws A modulus_total modulus_ring (λ a nonzero ha. inverse_below a a (omega arith) (omega arith) ha)

  pub modulus_laws : size ≤ largest_size → Laws (with_inverses A)
  modulus_laws small = record { total = modulus_total; bounded = small; ring = modulus_ring; inverses = modulus_inverses }
