-- A constant calls the list of its items, and the list calls it back for each. The levels left fall: 2 for each in the
-- one's measure, and 1 more in the other's. In the loop `Going`: some items are read, and the others still come.
use Prim.Native.Nat.{◌+◌, ◌*◌, ◌/◌}
use lib.ListN.{length}
use Rattle.constants.proofs.Going.{Going}
use Rattle.constants.proofs.+constant_items.Given as goal

abbrev pub decreases-constant : goal.decreases-constant
decreases-constant l = 2 * l.levels

abbrev pub decreases-items : goal.decreases-items
decreases-items l = 2 * l.levels + 1

abbrev pub invariant-items-loop : goal.invariant-items-loop
invariant-items-loop l =
    Going (length l.initial.t / 8) l.levels l.keyed l.s l.initial.at l.n l.initial.used l.initial.t l.t l.at l.counter l.used
