-- The records before j are put, each with its share of the items (`Sharing`).
use native.Mathlib.Nat.{mul-le-mul_left}
use native.Mathlib.Omega.{arith}
use Prim.Native.Nat.{◌+◌}
use Rattle.rows.specs.Back.{word}
use Rattle.emit.proofs.Sharing.{sharing-none, sharing-row, sharing-items, sharing-more, shared-all}
use Rattle.emit.proofs.record.owners.Goals as goal

pub loop-j-init : goal.loop-j-init
loop-j-init g c =
    sharing-none c.requires.shares_fit

pub of-row-requires : goal.of-row-requires
of-row-requires g c =
    let there = sharing-row c.loop-j.invariant c.loop-j-test.true in (omega arith, omega arith)

pub put-place-requires : goal.put-place-requires
put-place-requires g c =
    let there = sharing-row c.loop-j.invariant c.loop-j-test.true in (omega arith, sharing-items c.loop-j.invariant c.loop-j-test.true c.of-row.ensures)

pub loop-j-preserved : goal.loop-j-preserved
loop-j-preserved g c =
    sharing-more c.loop-j.invariant c.loop-j-test.true c.of-row.ensures c.owned-from.ensures c.put-place.ensures

pub overflow_add-from : goal.overflow_add-from
overflow_add-from g c =
    omega (arith, sharing-items c.loop-j.invariant c.loop-j-test.true c.of-row.ensures, c.owned-from.ensures, mul-le-mul_left (c.loop-j.from + word c.of-row.result g.R.Owner.counted) c.requires.some_item_width)

pub returns : goal.returns
returns g c =
    shared-all c.number-place.ensures c.loop-j.invariant c.loop-j-test.false
