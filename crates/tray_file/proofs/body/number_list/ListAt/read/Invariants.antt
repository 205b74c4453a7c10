use Rattle.std.proofs.Common.{◌≡◌, ◌+◌, length, take, drop}
use Rattle.tray_file.specs.body.NumberLists.{numbers, Begins}
use Rattle.tray_file.proofs.body.number_list.ListAt.read.Given as goal

-- the numbers so far, and the place after them
abbrev pub invariant-loop-j : goal.invariant-loop-j
invariant-loop-j l =
    Begins (take l.j l.values) (drop l.self.start l.self.body.now)
    × (l.place ≡ l.self.start + length (numbers (take l.j l.values)))
    × (length l.values ≡ l.self.count)
