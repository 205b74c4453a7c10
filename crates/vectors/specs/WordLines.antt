-- The line of a refusal's word.
use Rattle.std.specs.Prelude.{ℕ, List, ◌++◌, codes, decimal}

-- the type's name, the number and the word
abbrev pub word_line : List ℕ → ℕ → List ℕ → List ℕ
word_line name number word =
    name ++ (codes " " ++ (decimal number ++ (codes " " ++ (word ++ codes "\n"))))
