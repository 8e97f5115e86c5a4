-- The loop knows what the walk that runs has left of a check and of resolving (`Running`); an entry has one of three forms (`moves`).
use Rattle.std.proofs.Common.{◌+◌, get_or, arith}
use Rattle.pos.proofs.Shorts.{plain-three, plain-four, plain-five}
use Rattle.pos.proofs.Walks.{Moves, runs-begins, running_more}
use Rattle.pos.proofs.skim.run.Goals as goal
use Rattle.pos.proofs.skim.run.Goals.{Joined-step-table-lt128, then-step-table-lt128, else-step-table-lt128+else-rest-le3+then-step-table-lt128-2, else-step-table-lt128+else-rest-le3+else-step-table-lt128-2+else-rest-le4+else-step-table-ge128+else-table-at-lt128}

pub returns-then-table-at : goal.returns-then-table-at
returns-then-table-at c =
    rw c.standing.ensures (runs-begins _ _ _ _ _)

pub loop-left-init : goal.loop-left-init
loop-left-init c =
    record { runs = runs-begins _ _ _ _ _; inside = c.if-table-at.false }

moves : (c : Joined-step-table-lt128) → Moves c.args.table.now c.loop-left.at (get_or c.args.table.now c.loop-left.at 0) c.if-step-table-lt128.at
moves c =
    elim c.if-step-table-lt128.branch [
      | then-step-table-lt128 w ↦ record { size = 3; entry = plain-three _ _ (omega arith) w.if-step-table-lt128.true; is = w.at-is; inside = omega (arith, w.at-is) }
      | else-step-table-lt128+else-rest-le3+then-step-table-lt128-2 w ↦ record { size = 4; entry = plain-four _ _ (omega arith) w.if-step-table-lt128.false (omega (arith, c.type_inv.table (c.loop-left.at + 1))) w.if-step-table-lt128-2.true; is = w.at-is; inside = omega arith }
      | else-step-table-lt128+else-rest-le3+else-step-table-lt128-2+else-rest-le4+else-step-table-ge128+else-table-at-lt128 w ↦ record { size = 5; entry = plain-five _ _ (omega arith) w.if-step-table-ge128.false w.if-table-at-lt128.false (omega (arith, c.type_inv.table (c.loop-left.at + 1))) (omega (arith, c.type_inv.table (c.loop-left.at + 2))); is = w.at-is; inside = omega arith }
    ]

pub loop-left-preserved : goal.loop-left-preserved
loop-left-preserved c =
    running_more c.loop-left.invariant c.loop-left-test.true (moves c) c.if-step-least.false c.if-room-step.false

pub returns : goal.returns
returns c =
    rw c.standing-2.ensures c.loop-left.invariant.runs
