-- The loop stands by its law (Sharing).
use Rattle.std.proofs.Common.{refl}
use Rattle.rules.proofs.Sharing.{sharing-greedy, sharing-next, sharing-end}
use Rattle.rules.proofs.shares.shares_use.Goals as goal

pub loop-row-init : goal.loop-row-init
loop-row-init g c = record { same = refl }

pub returns-then-left-share : goal.returns-then-left-share
returns-then-left-share g c = sharing-greedy _ _ _ c.loop-row.invariant _ c.row-item.is c.loop-row-test.true c.if-left-share.true

pub loop-row-preserved : goal.loop-row-preserved
loop-row-preserved g c = sharing-next _ _ _ c.loop-row.invariant _ c.row-item.is c.loop-row-test.true c.if-left-share.false

pub returns : goal.returns
returns g c = sharing-end _ _ _ c.loop-row.invariant c.loop-row-test.false
