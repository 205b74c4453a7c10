use Rattle.std.proofs.Common.{◌≡◌, ◌+◌, ◌*◌, ◌<◌, length, arith}
use Rattle.tray_cases.proofs.DecodedBytes.{byte_at, decoded_more, decoded_all}
use Rattle.tray_cases.proofs.hexadecimal.decode.Goals as goal

pub loop-i-preserved : goal.loop-i-preserved
loop-i-preserved c =
    let text = c.args.text.now in
    let i = c.loop-i.i in
    let here : i < length c.loop-i.bytes = omega (arith, c.loop-i-test.true, c.loop-i.auto.bytes) in
    let within : 2 * i + 1 < length text = omega (arith, c.loop-i-test.true, c.requires) in
    let is : c.digit_of.result * 16 + c.digit_of-in-loop-i.result ≡ byte_at text (2 * i) = cc in
    decoded_more text c.loop-i.bytes i (c.digit_of.result * 16 + c.digit_of-in-loop-i.result) here within is c.loop-i.invariant

pub returns : goal.returns
returns c = decoded_all c.args.text.now c.loop-i.bytes c.loop-i.i (omega arith) (omega arith) c.loop-i.invariant
