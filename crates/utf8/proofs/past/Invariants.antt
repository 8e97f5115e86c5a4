-- The loop's invariant is the contract, at the place that is reached.
use Prim.Native.Nat.{◌-◌}
use lib.ListN.{length}
use Rattle.utf8.specs.Machine.{Passed}
use Rattle.utf8.proofs.past.Given as goal

abbrev pub invariant-loop-at : goal.invariant-loop-at
invariant-loop-at g l = Passed l.bytes l.from l.at

abbrev pub decreases-loop-at : goal.decreases-loop-at
decreases-loop-at g l = length l.bytes - l.at
