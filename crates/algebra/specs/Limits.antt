-- The largest sizes, each named once.
use Rattle.std.specs.Prelude.{ℕ, ◌+◌, ◌^◌}

-- the most elements that a field may have are a power of 2, by this exponent
abbrev pub size_bits : ℕ
size_bits = 8

-- the most elements that a field may have
abbrev pub largest_size : ℕ
largest_size = 2 ^ size_bits

-- the most cells that a card may have
abbrev pub largest_cells : ℕ
largest_cells = 256

-- the most rows that a card may have
abbrev pub largest_rows : ℕ
largest_rows = 64

-- the longest sequence that is realised: as many numbers as a card has rows at most
abbrev pub longest_sequence : ℕ
longest_sequence = largest_rows

-- the coefficients of a polynomial whose degree is at most that length
abbrev pub coefficients : ℕ
coefficients = longest_sequence + 1
