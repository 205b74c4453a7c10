-- The bytes that a text of hexadecimal digits stands for.
use Rattle.std.specs.Prelude.{ℕ, ◌+◌, ◌*◌, cond, List, [], ◌∷◌, nat_lt}
use Rattle.std.specs.Char.{digit_value}

-- A digit's value, capital or small; any other character's is 0.
abbrev pub hexadecimal_digit : ℕ → ℕ
hexadecimal_digit c = cond (nat_lt (digit_value c) 16) (digit_value c) 0

-- Two digits make a byte, the higher first; half a byte at the end is left out.
abbrev pub hexadecimal_bytes : List ℕ → List ℕ
hexadecimal_bytes [] = []
hexadecimal_bytes (half ∷ []) = []
hexadecimal_bytes (high ∷ low ∷ rest) =
    (hexadecimal_digit high * 16 + hexadecimal_digit low) ∷ hexadecimal_bytes rest
