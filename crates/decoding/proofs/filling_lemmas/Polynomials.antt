-- Steps of the loops on polynomials: the product with X − a, and the division by it.
use Rattle.std.proofs.Common.{reverse, ◌≡◌, ℕ, suc, ◌-◌, ◌<◌, List, [], ◌∷◌, length, get_or, drop, sym, ap, ◌∙◌, subst, ap₂, arith, drop-cons}
use Rattle.std.proofs.lemmas.List.{drop_all, length-reverse, get_or-reverse, get_or_default}
use Rattle.std.proofs.lemmas.Slice.Zip.{length-zip, get_or-zip}
use Rattle.std.specs.List.{zip}
use Rattle.algebra.specs.Meaning.{Arithmetic}
use Rattle.algebra.specs.Polynomial.{evaluate, quotient_linear, act}

-- quotient, action and value at k of the division of P by X − a from the highest coefficient down to k, with S the sums
pub record Divided (A : Arithmetic) (a : ℕ) (P : List ℕ) (S : ℕ → ℕ) (k quotient action value : ℕ) : Type 0 where
  pub quotient_is : quotient ≡ evaluate A (drop (suc k) P) a
  pub action_is : action ≡ act A (quotient_linear A a (drop k P)) S k
  pub value_is : value ≡ evaluate A (quotient_linear A a (drop k P)) a

module _ (A : Arithmetic) (a : ℕ) (P : List ℕ) (S : ℕ → ℕ) where
  -- nothing is divided at the highest coefficient
  pub divided_none : (d : ℕ) → length P ≡ suc d → Divided A a P S d 0 0 0
  divided_none d h =
      let last : drop (suc d) P ≡ [] = drop_all (suc d) P (omega arith) in
      let one : drop d P ≡ get_or P d 0 ∷ [] = drop-cons P d 0 (omega arith) ∙ ap (λ l. get_or P d 0 ∷ l) last in
      record {
        quotient_is = ap (λ l. evaluate A l a) (sym last);
        action_is = ap (λ l. act A (quotient_linear A a l) S d) (sym one);
        value_is = ap (λ l. evaluate A (quotient_linear A a l) a) (sym one);
      }

  quotient_from : (k : ℕ) → suc k < length P →
      quotient_linear A a (drop k P) ≡ evaluate A (drop (suc k) P) a ∷ quotient_linear A a (drop (suc k) P)
  quotient_from k h =
      let next = drop-cons P (suc k) 0 h in
      ap (quotient_linear A a) (drop-cons P k 0 (omega arith) ∙ ap (λ l. get_or P k 0 ∷ l) next)
      ∙ ap (λ l. evaluate A l a ∷ quotient_linear A a l) (sym next)

  -- one coefficient of the quotient more
  pub divided_more : (k j quotient action value x y z : ℕ) → j ≡ suc k → j < length P → Divided A a P S j quotient action value →
      x ≡ A.plus (get_or P j 0) (A.times a quotient) → y ≡ A.plus (A.times x (S k)) action → z ≡ A.plus x (A.times a value) →
      Divided A a P S k x y z
  divided_more k j quotient action value x y z e h d x-is y-is z-is =
      let after : suc k < length P = omega arith in
      let at : Divided A a P S (suc k) quotient action value = subst (λ i. Divided A a P S i quotient action value) e d in
      let here : x ≡ evaluate A (drop (suc k) P) a =
      x-is ∙ ap₂ (λ i q. A.plus (get_or P i 0) (A.times a q)) e at.quotient_is
      ∙ ap (λ l. evaluate A l a) (sym (drop-cons P (suc k) 0 after)) in
      let whole = sym (quotient_from k after) in
      record {
        quotient_is = here;
        action_is = y-is ∙ ap₂ (λ u v. A.plus (A.times u (S k)) v) here at.action_is ∙ ap (λ l. act A l S k) whole;
        value_is = z-is ∙ ap₂ (λ u v. A.plus u (A.times a v)) here at.value_is ∙ ap (λ l. evaluate A l a) whole;
      }

  -- at the constant coefficient the quotient is whole
  pub divided_all : (k quotient action value : ℕ) → k ≡ 0 → Divided A a P S k quotient action value → Divided A a P S 0 quotient action value
  divided_all k quotient action value e = subst (λ i. Divided A a P S i quotient action value) e

-- the pairs of two lists of one length, from their ends
pub pair_from_end : (xs ys : List ℕ) (i : ℕ) (p : ℕ × ℕ) → length ys ≡ length xs → i < length (zip (reverse xs) (reverse ys)) →
    p ≡ get_or (zip (reverse xs) (reverse ys)) i p →
    (i < length xs) × (p.0 ≡ get_or xs (length xs - 1 - i) 0) × (p.1 ≡ get_or ys (length xs - 1 - i) 0)
pair_from_end xs ys i p e h is =
    let n = length-reverse xs in
    let m = length-reverse ys in
    let below : i < length xs = omega (arith, length-zip (reverse xs) (reverse ys)) in
    let both = is ∙ get_or-zip (reverse xs) (reverse ys) i p (omega arith) (omega arith) in (
      below,
      ap (λ (q : ℕ × ℕ). q.0) both ∙ get_or-reverse xs i p.0 below ∙ get_or_default xs (length xs - 1 - i) p.0 0 (omega arith),
      ap (λ (q : ℕ × ℕ). q.1) both ∙ get_or-reverse ys i p.1 (omega arith)
          ∙ ap (λ k. get_or ys (k - 1 - i) p.1) e ∙ get_or_default ys (length xs - 1 - i) p.1 0 (omega arith),
    )

-- how many they are
pub pairs_in_all : (xs ys : List ℕ) → length ys ≡ length xs → length (zip (reverse xs) (reverse ys)) ≡ length xs
pairs_in_all xs ys e =
    let n = length-reverse xs in
    let m = length-reverse ys in
    omega (arith, length-zip (reverse xs) (reverse ys))
