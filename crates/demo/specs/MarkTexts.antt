-- The marks in which a word is shown.
use Rattle.std.specs.Prelude.{ℕ, List, codes, encode_utf8, flat_map, slice_index_or}

-- the mark of a letter, or '?' where it has none
abbrev pub shown_mark : ℕ → ℕ
shown_mark letter = slice_index_or (codes "0123456789ABCDEFGHIJKLMNOPQRSTUVWXYZ-") letter 63

abbrev pub mark_text : ℕ → List ℕ
mark_text letter = encode_utf8 (shown_mark letter)

abbrev pub marks_text : List ℕ → List ℕ
marks_text word = flat_map mark_text word
