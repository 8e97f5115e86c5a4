-- The place of the highest bit gives the groups.
use Rattle.std.proofs.Common.{arith}
use Rattle.varint.proofs.Shortest.{zeros-few, top-groups}
use Rattle.varint.proofs.size.Goals as goal

pub overflow_cast-top : goal.overflow_cast-top
overflow_cast-top c =
    omega (arith, zeros-few _ c.ranges.value.fits)

pub overflow_sub-top : goal.overflow_sub-top
overflow_sub-top c =
    omega (arith, zeros-few _ c.ranges.value.fits)

pub returns : goal.returns
returns c =
    omega (arith, top-groups _ c.ranges.value.fits)
