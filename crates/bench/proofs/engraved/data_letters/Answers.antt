use Rattle.std.proofs.Common.{refl, arith}
use Rattle.bench.proofs.FivesTold.{fives_more}
use Rattle.bench.proofs.engraved.data_letters.Goals as goal

pub loop-j-init : goal.loop-j-init
loop-j-init c = record { count = refl; each = λ k below. absurd (omega arith) }

pub loop-j-preserved : goal.loop-j-preserved
loop-j-preserved c = fives_more c.loop-j.letters c.loop-j.j (omega (arith, c.loop-j-test.true)) c.loop-j.invariant

pub returns : goal.returns
returns c = record { count = c.loop-j.invariant.count; each = λ j within. c.loop-j.invariant.each j (omega (arith, c.loop-j.invariant.count)) }
