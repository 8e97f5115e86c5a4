-- It calls itself for the items of a constant that has some, and the levels left fall. In the loop `Reaching`: some constants are
-- behind, and the others are still to come.
use Rattle.rules.proofs.Reaching.{Reaching}
use Rattle.rules.proofs.trees.+reach.Given as goal

abbrev pub decreases-reach : goal.decreases-reach
decreases-reach l = l.levels

abbrev pub invariant-loop : goal.invariant-loop
invariant-loop l = Reaching l.rows l.levels l.n l.counter l.rest
