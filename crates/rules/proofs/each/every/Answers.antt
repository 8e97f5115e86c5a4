-- The loop stands by its law (Standing), for each test that the closure decides.
use Rattle.std.proofs.Common.{true, false, refl}
use Rattle.rules.proofs.Standing.{standing-fails, standing-next, standing-end}
use Rattle.rules.proofs.each.every.Goals as goal

pub loop-row-init : goal.loop-row-init
loop-row-init g c = λ test d. record { same = refl }

pub returns-then-not-keeps : goal.returns-then-not-keeps
returns-then-not-keeps g c = λ test d. standing-fails _ _ (c.loop-row.invariant test d) _ c.row-item.is c.loop-row-test.true (d _ false c.if-not-keeps.ensures)

pub loop-row-preserved : goal.loop-row-preserved
loop-row-preserved g c = λ test d. standing-next _ _ (c.loop-row.invariant test d) _ c.row-item.is c.loop-row-test.true (d _ true c.if-not-keeps.ensures)

pub returns : goal.returns
returns g c = λ test d. standing-end _ _ (c.loop-row.invariant test d) c.loop-row-test.false
