-- It calls itself for the items of a constant that has some, and the levels left fall. In the loop `Reaching`: some constants are
-- behind, and the others are still to come.
use Rattle.rules.proofs.Reaching.{reach-none, reach-deep, reaching-none, reaching-paid, reaching-end, reaching-deep, reaching-next, reaching-leaf}
use Rattle.rules.proofs.trees.+reach.Goals as goal
use Rattle.rules.proofs.trees.+reach.Goals.{then-items-eq0, else-items-eq0+in_ok-next}

pub returns-then-n-eq0 : goal.returns-then-n-eq0
returns-then-n-eq0 t c = reach-none _ _ _ c.if-n-eq0.true

pub returns-then-levels-eq0 : goal.returns-then-levels-eq0
returns-then-levels-eq0 t c = reach-deep _ _ _ c.if-n-eq0.false c.if-levels-eq0.true

pub loop-init : goal.loop-init
loop-init t c = reaching-none _ _ _

pub returns-in_default : goal.returns-in_default
returns-in_default t c = reaching-end _ _ _ c.loop.invariant c.if-levels-eq0.false c.in_default.ensures.cases

pub returns-in_err-next : goal.returns-in_err-next
returns-in_err-next t c =
    rw c.from_residual.ensures (reaching-deep _ _ _ c.loop.invariant c.if-levels-eq0.false c.loop-test.true c.in-Some.ensures.cases.0 c.owns-items.ensures c.in_err-next.ensures)

pub loop-preserved : goal.loop-preserved
loop-preserved t c =
    elim c.if-items-eq0.branch [
      | then-items-eq0 w ↦ rw w.rest-is (reaching-leaf _ _ _ c.loop.invariant c.if-levels-eq0.false c.loop-test.true c.in-Some.ensures.cases.0 c.owns-items.ensures w.if-items-eq0.true)
      | else-items-eq0+in_ok-next w ↦ rw w.rest-is (reaching-next _ _ _ c.loop.invariant c.if-levels-eq0.false c.loop-test.true c.in-Some.ensures.cases.0 c.owns-items.ensures w.in_ok-next.ensures)
    ]

pub returns : goal.returns
returns t c = reaching-paid _ _ _ c.loop.invariant c.loop-test.false
