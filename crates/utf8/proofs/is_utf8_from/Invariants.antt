-- `utf8::is_utf8_from` meets its contract. The loop's invariant: the tables are right, and the walk so far is one from the start.
-- That the tables are right is a test that antt computes at each byte and state. Assumes nothing.
use Prim.Native.Nat.{◌-◌}
use lib.ListN.{length}
use Rattle.utf8.specs.Machine.{Tables, Walked}
use Rattle.utf8.proofs.is_utf8_from.Given as goal

abbrev pub invariant-loop-at : goal.invariant-loop-at
invariant-loop-at l = Tables l.classes l.words × Walked l.bytes 6 l.from l.state l.at

abbrev pub decreases-loop-at : goal.decreases-loop-at
decreases-loop-at l = length l.bytes - l.at
