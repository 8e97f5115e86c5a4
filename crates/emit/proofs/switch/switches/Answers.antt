-- The switches before j are put, each with its shares of the cases and of the ranges (`Switching`).
use mathlib.Core.Path.{ap}
use native.Mathlib.Omega.{arith}
use Rattle.rows.specs.Back.{switch_of}
use Rattle.emit.proofs.Switching.{switching-none, switching-row, switching-cases, switching-ranges, switching-more, switched-all}
use Rattle.emit.proofs.switch.switches.Goals as goal

pub loop-j-init : goal.loop-j-init
loop-j-init c =
    switching-none c.requires.shares_fit c.requires.shares_fit_2

pub of-row-requires : goal.of-row-requires
of-row-requires c =
    let there = switching-row c.loop-j.invariant c.loop-j-test.true in omega arith

pub switch-place-requires : goal.switch-place-requires
switch-place-requires c =
    record { row_in_bounds = switching-cases c.loop-j.invariant c.loop-j-test.true (ap switch_of c.of-row.ensures); row_in_bounds_2 = switching-ranges c.loop-j.invariant c.loop-j-test.true (ap switch_of c.of-row.ensures) }

pub overflow_add-from : goal.overflow_add-from
overflow_add-from c =
    omega (arith, switching-cases c.loop-j.invariant c.loop-j-test.true (ap switch_of c.of-row.ensures))

pub overflow_add-behind : goal.overflow_add-behind
overflow_add-behind c =
    omega (arith, switching-ranges c.loop-j.invariant c.loop-j-test.true (ap switch_of c.of-row.ensures))

pub loop-j-preserved : goal.loop-j-preserved
loop-j-preserved c =
    switching-more c.loop-j.invariant c.loop-j-test.true (ap switch_of c.of-row.ensures) c.switch-place.ensures

pub returns : goal.returns
returns c =
    switched-all c.number-place.ensures c.loop-j.invariant c.loop-j-test.false
