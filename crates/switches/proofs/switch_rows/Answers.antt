-- The loop has read some switches and stored their rows, their cases' and their ranges' (`Switching`).
use mathlib.Core.Path.{refl}
use Rattle.switches.proofs.Switching.{all_refused, switching-none, switching-full, switching-refused, switching-more, switching-done}
use Rattle.switches.proofs.switch_rows.Goals as goal

pub loop-init : goal.loop-init
loop-init c =
    switching-none _ _ _ _ _ _ _

pub returns-then-places-used : goal.returns-then-places-used
returns-then-places-used c =
    all_refused refl (switching-full c.loop.invariant c.loop-test.true c.if-places-used.true)

pub returns-in_err-switch : goal.returns-in_err-switch
returns-in_err-switch c =
    all_refused c.from_residual.ensures.1 (switching-refused c.loop.invariant c.loop-test.true c.if-places-used.false c.switch.ensures c.in_err-switch.was)

pub loop-preserved : goal.loop-preserved
loop-preserved c =
    rw (c.store.ensures, c.into-row.ensures) (switching-more c.loop.invariant c.loop-test.true c.if-places-used.false c.switch.ensures c.in_ok-switch.was)

pub returns : goal.returns
returns c =
    switching-done c.loop.invariant c.loop-test.false
