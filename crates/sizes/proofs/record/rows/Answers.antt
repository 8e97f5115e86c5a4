-- The rows before j are counted (`Flat`).
use native.Mathlib.Omega.{arith}
use Rattle.sizes.proofs.Flat.{flat-none, flat-row, flat_on, flat-done}
use Rattle.sizes.proofs.record.rows.Goals as goal

pub loop-j-init : goal.loop-j-init
loop-j-init g c =
    flat-none c.requires.used_in_bounds c.requires.at_bound

pub of-requires : goal.of-requires
of-requires g c =
    let there = flat-row c.loop-j.invariant c.loop-j-test.true in (omega arith, omega arith)

pub loop-j-preserved : goal.loop-j-preserved
loop-j-preserved g c =
    flat_on c.loop-j.invariant c.loop-j-test.true c.of.ensures c.count-place.ensures

pub returns : goal.returns
returns g c =
    flat-done c.loop-j.invariant c.loop-j-test.false
