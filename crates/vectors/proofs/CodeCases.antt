-- What a case of a code begins with.
use Rattle.std.proofs.Common.{◌≡◌, ◌≤◌, ◌<◌, ℕ, List, [], ◌∷◌, length, get_or, refl, ap, ◌∙◌, arith}
use Rattle.codes.specs.Code.{code_with}

pub two : (xs : List ℕ) → 2 ≤ length xs → length xs < 3 → xs ≡ get_or xs 0 0 ∷ get_or xs 1 0 ∷ []
two [] long short = absurd (omega (arith, long))
two (x ∷ []) long short = absurd (omega (arith, long))
two (x ∷ y ∷ []) long short = refl
two (x ∷ y ∷ z ∷ zs) long short = absurd (omega (arith, short))

pub same_code : {a a' b b' : ℕ} {l l' h h' : List ℕ} → a ≡ a' → b ≡ b' → l ≡ l' → h ≡ h' → code_with a b l h ≡ code_with a' b' l' h'
same_code {a} {a'} {b} {b'} {l} {l'} {h} {h'} p q r s = ap (λ x. code_with x b l h) p ∙ ap (λ x. code_with a' x l h) q ∙ ap (λ x. code_with a' b' x h) r ∙ ap (code_with a' b' l') s
