-- How long a file may be.
use Rattle.std.specs.Prelude.{ℕ}

-- the most bytes that a file may have
abbrev pub longest_file : ℕ
longest_file = 60000
