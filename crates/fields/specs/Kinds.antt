-- The numbers of the two kinds of field.
use Rattle.std.specs.Prelude.{ℕ}

abbrev pub prime_kind : ℕ
prime_kind = 1

abbrev pub binary_kind : ℕ
binary_kind = 2
