-- The rows before j are put (`Listing`).
use Prim.Native.Nat.{◌+◌}
use native.Mathlib.Nat.{mul-le-mul_left}
use native.Mathlib.Omega.{arith}
use Rattle.emit.proofs.Listing.{listing-none, listing-row, listing-more, listed-rows}
use Rattle.emit.proofs.record.list.Goals as goal

pub overflow_add-j-end : goal.overflow_add-j-end
overflow_add-j-end g c =
    omega (arith, c.requires.from_in_bounds, mul-le-mul_left (c.args.from + c.args.n) c.requires.some_width)

pub loop-j-init : goal.loop-j-init
loop-j-init g c =
    listing-none c.args.from c.args.n c.requires.from_in_bounds

pub of-requires : goal.of-requires
of-requires g c =
    let there = listing-row c.loop-j.invariant c.loop-j-test.true in (omega arith, omega arith)

pub loop-j-preserved : goal.loop-j-preserved
loop-j-preserved g c =
    listing-more c.loop-j.invariant c.loop-j-test.true (rw c.of.ensures at c.put-place.ensures)

pub returns : goal.returns
returns g c =
    listed-rows c.args.from c.args.n c.number-place.ensures c.loop-j.invariant c.loop-j-test.false
