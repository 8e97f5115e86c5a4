-- The walk stands by its law (Walking).
use Rattle.std.proofs.Common.{length}
use Rattle.rules.proofs.Walking.{Walking}
use Rattle.rules.proofs.trees.walk.Given as goal

abbrev pub invariant-loop-row : goal.invariant-loop-row
invariant-loop-row l = Walking l.rows l.n l.rest l.owed

abbrev pub decreases-loop-row : goal.decreases-loop-row
decreases-loop-row l = length l.rest
