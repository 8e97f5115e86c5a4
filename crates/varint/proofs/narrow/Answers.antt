-- The wide read, and whether what it got is below the power.
use Rattle.std.proofs.Common.{arith, ◌^◌, ◌<◌, le-ltb, lt-ltb}
use Rattle.std.proofs.Math.Pow.{pow-lt}
use Rattle.grammar.proofs.Number.{number-narrow}
use Rattle.varint.proofs.narrow.Goals as goal

pub returns-in-Ok-clause-value : goal.returns-in-Ok-clause-value
returns-in-Ok-clause-value g c =
    let fits : 2 ^ g.row.BITS < 2 ^ 64 = pow-lt {j = 64} (omega arith) in
    rw (number-narrow g.row.BITS (omega arith) c.args.s.now c.args.c, c.uvarint.ensures, c.in-Ok.is, lt-ltb c.in-Ok.value (2 ^ g.row.BITS) (omega arith))

pub returns-in-Ok-2-clause-value : goal.returns-in-Ok-2-clause-value
returns-in-Ok-2-clause-value g c =
    let fits : 2 ^ g.row.BITS < 2 ^ 64 = pow-lt {j = 64} (omega arith) in
    rw (number-narrow g.row.BITS (omega arith) c.args.s.now c.args.c, c.uvarint.ensures, c.in-Ok.is, le-ltb c.in-Ok.value (2 ^ g.row.BITS) (omega arith))

pub returns-in-Err-clause-value : goal.returns-in-Err-clause-value
returns-in-Err-clause-value g c =
    rw (number-narrow g.row.BITS (omega arith) c.args.s.now c.args.c, c.uvarint.ensures, c.in-Err.is)
