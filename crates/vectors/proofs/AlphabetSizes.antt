-- The alphabet sizes, told one after another.
use Rattle.std.proofs.Common.{◌≡◌, ℕ, ◌+◌, List, [], ◌∷◌, ◌++◌, inl, inr, refl, sym, ap, ◌∙◌, subst, codes, add-one}
use Rattle.std.proofs.lemmas.List.{flat_map_more}
use Rattle.algebra.specs.Meaning.{Arithmetic}
use Rattle.algebra.specs.Alphabet.{Alphabet}
use Rattle.codes.specs.WordText.{letter_text, word_text}
use Rattle.vectors.specs.Answers.{AlphabetSizes}

-- the text tells the sizes below n
abbrev pub SizesTold : Arithmetic → ℕ → List ℕ → Type 0
SizesTold A n text = (sizes : List ℕ) × AlphabetSizes A n sizes × (text ≡ codes "admits" ++ word_text sizes)

pub told_none : (A : Arithmetic) (text : List ℕ) → text ≡ codes "admits" ++ [] → SizesTold A 0 text
unfolding AlphabetSizes
told_none A text is = ([], refl, is)

pub told_more : (A : Arithmetic) (n : ℕ) (before after : List ℕ) → SizesTold A n before → Alphabet A n → after ≡ before ++ letter_text n → SizesTold A (n + 1) after
unfolding AlphabetSizes
told_more A n before after (sizes, are, is) admitted made =
    subst (λ (k : ℕ). SizesTold A k after) (sym (add-one n))
    (sizes ++ n ∷ [], (sizes, are, inl (admitted, refl)), made ∙ ap (λ (text : List ℕ). text ++ letter_text n) is ∙ flat_map_more letter_text (codes "admits") sizes n)

pub told_same : (A : Arithmetic) (n : ℕ) (text : List ℕ) → SizesTold A n text → (Alphabet A n → ⊥) → SizesTold A (n + 1) text
unfolding AlphabetSizes
told_same A n text (sizes, are, is) refused = subst (λ (k : ℕ). SizesTold A k text) (sym (add-one n)) (sizes, (sizes, are, inr (refused, refl)), is)
