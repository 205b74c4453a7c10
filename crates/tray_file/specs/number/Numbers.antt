-- How a number is written.
use Rattle.std.specs.Prelude.{ℕ, zero, suc, ◌+◌, ◌*◌, ◌/◌, ◌%◌, cond, List, [], ◌∷◌, nat_lt}

-- the largest number
abbrev pub largest_number : ℕ
largest_number = 65535

-- how many bytes may stand before a number's last one
abbrev pub most_before : ℕ
most_before = 2

-- Groups of seven bits, the lowest first: every byte but the last is 128 more than its group.
abbrev pub groups : ℕ → ℕ → List ℕ
groups zero v = v ∷ []
groups (suc before) v = cond (nat_lt v 128) (v ∷ []) ((128 + v % 128) ∷ groups before (v / 128))

-- the bytes of a number, in as few groups as hold it
unfoldable pub number_bytes : ℕ → List ℕ
number_bytes v = groups most_before v

-- what bytes are worth: each byte's low seven bits, the lowest group first
abbrev pub worth : List ℕ → ℕ
worth [] = 0
worth (byte ∷ rest) = byte % 128 + 128 * worth rest
