use Rattle.std.proofs.Common.{◌≡◌, ◌++◌, take, replicate}
use Rattle.codes.specs.Cells.{blank_cell, noted}
use Rattle.decoding.proofs.encoding.data_cells.Given as goal

abbrev pub invariant-loop-letter : goal.invariant-loop-letter
invariant-loop-letter l = l.cells.items ≡ noted (take l.letter-index l.letters)

abbrev pub invariant-loop : goal.invariant-loop
invariant-loop l = l.cells.items ≡ noted l.letters ++ replicate l.counter blank_cell
