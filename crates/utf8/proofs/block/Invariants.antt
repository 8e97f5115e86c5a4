-- The bits so far cover the bytes passed.
use Rattle.utf8.specs.Machine.{Covers}
use Rattle.utf8.proofs.block.Given as goal

abbrev pub invariant-loop-k : goal.invariant-loop-k
invariant-loop-k g l = Covers l.bytes l.at l.k l.all
