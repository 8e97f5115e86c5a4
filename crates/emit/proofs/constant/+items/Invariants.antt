-- The loop: the constants before the next row are put, and the others still come. The levels left fall at the call.
use Prim.Native.Nat.{◌-◌}
use Rattle.emit.proofs.Growing.{Growing}
use Rattle.emit.proofs.constant.+items.Given as goal

abbrev pub decreases-items : goal.decreases-items
decreases-items l = l.deep

abbrev pub invariant-loop : goal.invariant-loop
invariant-loop l =
    Growing l.s l.keys l.deep l.n l.t l.used l.from l.initial.out l.at l.next (l.n - l.counter) l.out l.place
