-- The loop stands by its law (Entering), for each test that the closure decides.
use Rattle.std.proofs.Common.{true, false}
use Rattle.rules.proofs.Entering.{entering-none, entering-paid, entering-end, entering-fails, entering-next}
use Rattle.rules.proofs.trees.entries.Goals as goal

pub loop-init : goal.loop-init
loop-init g c = λ test d. entering-none _ _ _

pub returns-in_default : goal.returns-in_default
returns-in_default g c = λ test d. entering-end _ _ _ (c.loop.invariant test d) c.in_default.ensures.cases

pub returns-then-not-keeps : goal.returns-then-not-keeps
returns-then-not-keeps g c =
    λ test d. entering-fails _ _ _ (c.loop.invariant test d) c.loop-test.true c.in-Some.ensures.cases.0 (d c.in-Some.row false c.if-not-keeps.ensures)

pub loop-preserved : goal.loop-preserved
loop-preserved g c =
    λ test d. entering-next _ _ _ (c.loop.invariant test d) c.loop-test.true c.in-Some.ensures.cases.0 (d c.in-Some.row true c.if-not-keeps.ensures) c.owns.ensures c.walk.ensures.rest

pub returns : goal.returns
returns g c = λ test d. entering-paid _ _ _ (c.loop.invariant test d) c.loop-test.false
