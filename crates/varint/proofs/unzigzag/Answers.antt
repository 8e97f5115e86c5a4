-- Half of the number where it is even, the half's complement where it is odd.
use Rattle.varint.proofs.Halves.{even_is, odd_is}
use Rattle.varint.proofs.unzigzag.Goals as goal

pub returns-then-u-eq0 : goal.returns-then-u-eq0
returns-then-u-eq0 c =
    even_is _ c.ranges.u.fits c.if-u-eq0.true

pub returns-else-u-eq0 : goal.returns-else-u-eq0
returns-else-u-eq0 c =
    odd_is _ c.ranges.u.fits c.if-u-eq0.false
