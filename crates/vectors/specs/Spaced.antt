-- A line in which numbers may stand apart by any white space.
use Rattle.std.specs.Prelude.{ℕ, ◌≡◌, ◌==◌, ◌&&◌, ◌||◌, not, Bool, true, false, List, [], ◌∷◌, ◌++◌, cond, encode_utf8}
use Rattle.std.specs.List.{list_all}
use Rattle.std.specs.Char.{is_whitespace}
use Rattle.vectors.specs.declared.spaced.Before.{Before}

-- a space, or no white space
abbrev pub is_common : ℕ → Bool
is_common c = (c == 32) || not (is_whitespace c)

-- there is no white space but spaces
abbrev pub PlainSpaces : List ℕ → Type 0
PlainSpaces cs = list_all is_common cs ≡ true

-- the bytes of a character: of white space after the first space, a space, or nothing where white
-- space stood just before and does not count
abbrev pub put_text : Before → ℕ → List ℕ
put_text before c =
    cond (before.space && is_whitespace c)
    (cond (before.gap && not before.counts) [] (encode_utf8 32))
    (encode_utf8 c)

-- what has stood after a character more; 59 is ';'
abbrev pub next : Before → ℕ → Before
next before c = record {
  marks = before.marks;
  counts = before.counts || (before.marks && (c == 59));
  space = before.space || (c == 32);
  gap = (before.space && is_whitespace c) || (c == 32);
}

unfoldable pub spaced_from : Before → List ℕ → List ℕ
spaced_from before [] = []
spaced_from before (c ∷ cs) = put_text before c ++ spaced_from (next before c) cs

-- the line's bytes, with white space made single spaces, but for that of marks
abbrev pub spaced_text : Bool → List ℕ → List ℕ
spaced_text marks cs =
    spaced_from (record { marks = marks; counts = false; space = false; gap = false }) cs
