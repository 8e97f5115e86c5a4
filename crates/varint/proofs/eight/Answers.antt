-- Each byte is shifted above those before it, which is as much as adding it there.
use Rattle.std.proofs.Common.{ℕ, ◌<◌, get_or}
use Rattle.varint.proofs.Payloads.{eight_are, bytes-at}
use Rattle.std.proofs.Common.{arith}
use Rattle.varint.proofs.eight.Goals as goal

pub returns : goal.returns
returns c =
    let each : (i : ℕ) → get_or c.args.s.now i 0 < 256 = λ i. (omega (arith, c.type_inv.s i)) in
    record { value = (eight_are c.args.s.now each c.args.at); bytes = bytes-at c.args.s.now each c.args.at 8 }
