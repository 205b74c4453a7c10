use Rattle.std.proofs.Common.{◌≡◌, ◌*◌, ◌++◌, take, drop}
use Rattle.tray_cases.specs.Hexadecimal.{hexadecimal_bytes}
use Rattle.tray_cases.proofs.hexadecimal.decode.Given as goal

-- the bytes so far, and those of the text that is left
abbrev pub invariant-loop-i : goal.invariant-loop-i
invariant-loop-i l = take l.i l.bytes ++ hexadecimal_bytes (drop (2 * l.i) l.text) ≡ hexadecimal_bytes l.text
