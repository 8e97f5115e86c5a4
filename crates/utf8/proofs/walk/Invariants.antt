-- The loop's invariant is the contract, at the place and the state that are reached.
use Rattle.utf8.specs.Machine.{Walked}
use Rattle.utf8.proofs.walk.Given as goal

abbrev pub invariant-loop-at : goal.invariant-loop-at
invariant-loop-at l = Walked l.bytes l.start l.from l.state l.at
