-- Each way out is one law of Shorts.
use Rattle.std.proofs.Common.{◌+◌, arith}
use Rattle.pos.proofs.Shorts.{field-one, field-two, field-three}
use Rattle.pos.proofs.skim.number.Goals as goal

pub returns-then-low-lt128 : goal.returns-then-low-lt128
returns-then-low-lt128 c =
    rw c.advance.ensures (field-one _ _ (omega arith) c.if-low-lt128.true)

pub returns-then-mid-lt128 : goal.returns-then-mid-lt128
returns-then-mid-lt128 c =
    rw c.advance-then-mid-lt128.ensures
    (field-two _ _ (omega arith) c.if-low-lt128.false (c.type_inv.table c.args.c.at).fits c.if-mid-lt128.true)

pub returns-then-top-lt128 : goal.returns-then-top-lt128
returns-then-top-lt128 c =
    rw c.advance-then-top-lt128.ensures
    (field-three _ _ (omega arith) c.if-low-lt128.false (c.type_inv.table c.args.c.at).fits c.if-mid-lt128.false
    (c.type_inv.table (c.args.c.at + 1)).fits c.if-top-lt128.true)
