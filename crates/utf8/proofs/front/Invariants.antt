-- `utf8::front` meets its contract. The loop's invariant: the bits so far screen the bytes passed that belong to the text. Assumes nothing.
use Prim.Native.Nat.{◌-◌, ◌≤◌, min}
use Rattle.utf8.specs.Machine.{Screens}
use Rattle.utf8.proofs.front.Given as goal

abbrev pub invariant-loop-i : goal.invariant-loop-i
invariant-loop-i l = (l.i ≤ 16) × Screens l.bytes l.at (min l.i l.n) l.all

abbrev pub decreases-loop-i : goal.decreases-loop-i
decreases-loop-i l = 16 - l.i
