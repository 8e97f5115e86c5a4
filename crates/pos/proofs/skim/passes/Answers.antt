-- The walk leaves the check as it is, and nothing is left of it.
use Rattle.std.proofs.Common.{eqb-true}
use Rattle.pos.proofs.Walks.{single-runs, checking-sound}
use Rattle.pos.proofs.skim.passes.Goals as goal

pub returns-then-w-eq0 : goal.returns-then-w-eq0
returns-then-w-eq0 c =
    λ e. checking-sound (single-runs c.in-Some.ensures c.run-w.ensures) c.if-w-eq0.true (eqb-true _ _ e)
