-- What a writer that may fail has taken of several texts, one after another.
use Rattle.std.proofs.Common.{◌≡◌, ℕ, zero, suc, ◌-◌, ◌<◌, ◌≤◌, List, [], ◌∷◌, ◌++◌, length, get_or, take, drop, Ok, Err, Option, Result, refl, sym, ap, ◌∙◌, subst, append-nil, append_assoc, flat_map, arith}
use Rattle.std.proofs.lemmas.List.{take_all, take-append-drop, length-drop}
use Rattle.std.specs.Io.KnownBytes.{Appends}
use Rattle.std.proofs.KnownBytes.{Appends-trans}
use Rattle.tray_report.specs.Putting.{AppendsBeginning, Puts}

-- a beginning of the second text, after all of the first
pub begin_more : (old mid new : Option (List ℕ)) (a b : List ℕ) → Appends old mid a → AppendsBeginning mid new b → AppendsBeginning old new (a ++ b)
begin_more old mid new a b whole (front, rest, is, some) =
    (a ++ front, rest, ap (λ (l : List ℕ). a ++ l) is ∙ sym (append_assoc a front rest), Appends-trans old mid new a front whole some)

-- a beginning of the first text
pub begin_front : (old new : Option (List ℕ)) (a b : List ℕ) → AppendsBeginning old new a → AppendsBeginning old new (a ++ b)
begin_front old new a b (front, rest, is, some) = (front, rest ++ b, ap (λ (l : List ℕ). l ++ b) is ∙ append_assoc front rest b, some)

-- the texts of a list around that at one place
split_at : {A : Type 0} (f : A → List ℕ) (xs : List A) (i : ℕ) (d : A) → i < length xs →
    flat_map f xs ≡ flat_map f (take i xs) ++ (f (get_or xs i d) ++ flat_map f (drop (suc i) xs))
split_at f [] i d within = absurd (omega arith)
split_at f (x ∷ xs) zero d within = refl
split_at f (x ∷ xs) (suc i) d within =
    ap (λ (l : List ℕ). f x ++ l) (split_at f xs i d (omega arith)) ∙ sym (append_assoc (f x) (flat_map f (take i xs)) (f (get_or xs i d) ++ flat_map f (drop (suc i) xs)))

-- a beginning of the text at one place, after those before it
module _ {A : Type 0} (f : A → List ℕ) (xs : List A) (i : ℕ) (d : A) (old mid new : Option (List ℕ)) (within : i < length xs)
    (before : Appends old mid (flat_map f (take i xs))) where
  pub begin_at : AppendsBeginning mid new (f (get_or xs i d)) → AppendsBeginning old new (flat_map f xs)
  begin_at some =
      subst (AppendsBeginning old new) (sym (split_at f xs i d within))
      (begin_more old mid new (flat_map f (take i xs)) (f (get_or xs i d) ++ flat_map f (drop (suc i) xs)) before
      (begin_front mid new (f (get_or xs i d)) (flat_map f (drop (suc i) xs)) some))

-- three fields and a word, bracketed as a line is
pub three_fields : (a b c d e f w n : List ℕ) → ((a ++ b) ++ ((c ++ d) ++ ((e ++ f) ++ []))) ++ (w ++ n) ≡ (a ++ (b ++ (c ++ (d ++ (e ++ (f ++ w)))))) ++ n
three_fields a b c d e f w n = simp (append_assoc, append-nil)

pub two_fields : (a b c d n : List ℕ) → ((a ++ b) ++ ((c ++ d) ++ [])) ++ ([] ++ n) ≡ (a ++ (b ++ (c ++ d))) ++ n
two_fields a b c d n = simp (append_assoc, append-nil)

-- all of the first text, and as much of the second as the answer says
pub puts_more : {E : Type 0} (old mid new : Option (List ℕ)) (a b : List ℕ) (r : Result (Unit {0}) E) → Appends old mid a → Puts mid new b r → Puts old new (a ++ b) r
puts_more old mid new a b (Ok done) first second = Appends-trans old mid new a b first second
puts_more old mid new a b (Err error) first second = begin_more old mid new a b first second

-- an answer that is an error
pub failed : {E : Type 0} (old new : Option (List ℕ)) (a : List ℕ) (r : Result (Unit {0}) E) (error : E) → r ≡ Err error → AppendsBeginning old new a → Puts old new a r
failed old new a r error is some = subst (Puts old new a) (sym is) some

-- what is left after so many bytes more
pub next_left : (bytes front left : List ℕ) (n : ℕ) → n ≤ length left → bytes ≡ front ++ left → bytes ≡ (front ++ take n left) ++ take (length left - n) (drop n left)
next_left bytes front left n within is =
    is ∙ ap (λ (l : List ℕ). front ++ l) (sym (take-append-drop n left)) ∙ sym (append_assoc front (take n left) (drop n left))
    ∙ ap (λ (l : List ℕ). (front ++ take n left) ++ l) (sym (take_all (length left - n) (drop n left) (omega (arith, length-drop n left))))
