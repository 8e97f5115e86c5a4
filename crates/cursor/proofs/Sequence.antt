-- A cursor moved to the place that a read answered reads there: so reads through it, one after the other, are the definition's.
use Prim.Native.Nat.{◌+◌}
use mathlib.Core.Path.{◌≡◌}
use native.Mathlib.Omega.{arith}
use Rattle.grammar.specs.declared.Cursor.{Cursor}
use Rattle.grammar.specs.Outcome.{start, advanced}

pub at_next : (next : Cursor) → advanced start next.at ≡ next
at_next next = let zero_more : 0 + next.at ≡ next.at = omega arith in rw zero_more
