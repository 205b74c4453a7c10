use Rattle.std.proofs.Common.{◌≡◌, ◌++◌, List, ℕ}
use Rattle.std.specs.Io.KnownBytes.{Appends}
use Rattle.tray_report.proofs.report.putting.put.Given as goal

-- the bytes before those that are left were taken
abbrev pub invariant-loop : goal.invariant-loop
invariant-loop g l =
    (front : List ℕ) × (l.bytes ≡ front ++ l.left) × Appends (g.W.Write.contents l.fn.out) (g.W.Write.contents l.out) front
