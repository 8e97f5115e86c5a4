-- The loop: the constants before the next row are counted, and the others still come. The levels left fall at the call.
use Prim.Native.Nat.{◌-◌}
use Rattle.sizes.proofs.Grown.{Grown}
use Rattle.sizes.proofs.constant.+items.Given as goal

abbrev pub decreases-items : goal.decreases-items
decreases-items l = l.deep

abbrev pub invariant-loop : goal.invariant-loop
invariant-loop l =
    Grown l.s l.keys l.deep l.n l.t l.used l.from l.at l.next (l.n - l.counter) l.place
