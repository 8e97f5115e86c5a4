-- The loop holds k groups, of which the first is there where any byte is.
use Rattle.std.proofs.Common.{◌<◌}
use Rattle.varint.specs.Holding.{Holding}
use Rattle.varint.specs.Answered.{place}
use Rattle.varint.proofs.short.Given as goal

abbrev pub invariant-loop-k : goal.invariant-loop-k
invariant-loop-k l = 0 < l.left → Holding l.s (place l.at) l.value l.k
