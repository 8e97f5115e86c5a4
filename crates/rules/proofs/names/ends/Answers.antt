-- The loop stands by its law (Ending).
use Rattle.std.proofs.Common.{refl}
use Rattle.rules.proofs.Ending.{ending-falls, ending-next, ending-end}
use Rattle.rules.proofs.names.ends.Goals as goal

pub loop-end-init : goal.loop-end-init
loop-end-init c = record { same = refl }

pub returns-then-end-before : goal.returns-then-end-before
returns-then-end-before c = ending-falls _ _ c.loop-end.invariant c.loop-end-test.true c.if-end-before.true

pub loop-end-preserved : goal.loop-end-preserved
loop-end-preserved c = ending-next _ _ c.loop-end.invariant c.loop-end-test.true c.if-end-before.false

pub returns : goal.returns
returns c = ending-end _ _ c.loop-end.invariant c.loop-end-test.false
