-- The letter that a wrong cell holds.
use Rattle.std.specs.Prelude.{ℕ, ◌==◌, if◌then◌else◌}

-- 1 for 0, and 0 for any other letter: both are letters of every alphabet
abbrev pub another_letter : ℕ → ℕ
another_letter letter = if letter == 0 then 1 else 0
