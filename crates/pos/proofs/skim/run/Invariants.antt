-- The loop knows what the walk that runs has left of a check and of resolving (`Running`); an entry has one of three forms (`moves`).
use Rattle.pos.proofs.Walks.{Running}
use Rattle.pos.proofs.skim.run.Given as goal

abbrev pub invariant-loop-left : goal.invariant-loop-left
invariant-loop-left l = Running l.table l.from l.count l.over l.within l.at l.left l.least l.room

abbrev pub decreases-loop-left : goal.decreases-loop-left
decreases-loop-left l = l.left
