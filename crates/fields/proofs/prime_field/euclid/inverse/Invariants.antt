use Rattle.std.proofs.Common.{◌≡◌, ◌*◌, ◌%◌, ◌<◌, ◌≤◌}
use Rattle.fields.proofs.Euclid.{Common}
use Rattle.fields.proofs.prime_field.euclid.inverse.Given as goal

-- u and v are g × a and h × a modulo p, and what divides both divides p and a
abbrev pub invariant-loop-v : goal.invariant-loop-v
invariant-loop-v l =
    (l.u ≤ l.p) × (l.v < l.u) × (l.g < l.p) × (l.h < l.p)
    × (l.u % l.p ≡ (l.g * l.a) % l.p)
    × (l.v % l.p ≡ (l.h * l.a) % l.p)
    × Common l.p l.a l.u l.v

abbrev pub decreases-loop-v : goal.decreases-loop-v
decreases-loop-v l = l.v
