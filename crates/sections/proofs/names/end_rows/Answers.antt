-- The loop has read some ends and stored them, and knows of them what the rule asks.
use mathlib.Core.Path.{refl}
use Rattle.sections.proofs.Ending.{ending_none, ends_refused, ending_full, ending_stopped, ending_more, ending_done}
use Rattle.sections.proofs.names.end_rows.Goals as goal

pub loop-init : goal.loop-init
loop-init c =
    ending_none _ _ _ _

pub returns-then-t-used : goal.returns-then-t-used
returns-then-t-used c =
    ends_refused refl (ending_full c.loop.invariant c.loop-test.true c.if-t-used.true)

pub returns-in_err-end : goal.returns-in_err-end
returns-in_err-end c =
    ends_refused c.from_residual.ensures.1 (ending_stopped c.loop.invariant c.loop-test.true c.if-t-used.false c.in_err-end.ensures)

pub loop-preserved : goal.loop-preserved
loop-preserved c =
    rw c.join-last.ensures (ending_more c.loop.invariant c.loop-test.true c.if-t-used.false c.in_ok-end.ensures)

pub returns : goal.returns
returns c =
    ending_done c.loop.invariant c.loop-test.false
