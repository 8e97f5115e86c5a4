-- The loop knows what the check still has to read (`Checking`), and each way out is one law of Walks.
use Rattle.pos.specs.Skim.{Checking}
use Rattle.pos.proofs.entries.Given as goal

abbrev pub invariant-loop-w : goal.invariant-loop-w
invariant-loop-w l = Checking l.table l.w

abbrev pub decreases-loop-w : goal.decreases-loop-w
decreases-loop-w l = l.w.left
