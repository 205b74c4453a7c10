-- What is noted of a word on a damaged tag.
use Rattle.std.specs.Prelude.{ℕ, ◌-◌, nat_lt, if◌then◌else◌, Some, None, Option}
use Rattle.bench.specs.Letters.{another_letter}
use Rattle.bench.specs.declared.damage.Damage.{Damage}

-- the letter that is noted at a place in place of the word's: none in the first cells, and another
-- one in the wrong cells after them
abbrev pub noted_letter : Damage → ℕ → ℕ → Option ℕ
noted_letter damage place letter =
    if nat_lt place damage.blank then None
    else Some (if nat_lt (place - damage.blank) damage.wrong then another_letter letter else letter)
