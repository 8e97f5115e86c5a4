-- The loop knows that what is asked is found in what is left (`Seeking`), and each way out is one law of Walks.
use Rattle.pos.proofs.Walks.{Seeking}
use Rattle.pos.proofs.seek_on.Given as goal

abbrev pub invariant-loop-w : goal.invariant-loop-w
invariant-loop-w l = Seeking l.table l.asked l.initial.w l.w

abbrev pub decreases-loop-w : goal.decreases-loop-w
decreases-loop-w l = l.w.left
