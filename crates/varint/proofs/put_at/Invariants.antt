-- The loop has split k groups off and stored them (`Putting`).
use Rattle.std.proofs.Common.{◌-◌}
use Rattle.varint.proofs.Shortest.{Putting}
use Rattle.varint.proofs.put_at.Given as goal

abbrev pub invariant-loop-rest : goal.invariant-loop-rest
invariant-loop-rest l = Putting l.initial.out l.at l.value l.out l.rest l.k

abbrev pub decreases-loop-rest : goal.decreases-loop-rest
decreases-loop-rest l = 9 - l.k
