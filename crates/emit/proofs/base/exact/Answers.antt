-- Where the bytes do not fit nothing is touched.
use native.Mathlib.Omega.{arith}
use Rattle.emit.proofs.Groups.{some_bytes}
use Rattle.emit.proofs.Laws.{puts-nowhere, puts-stored}
use Rattle.emit.proofs.base.exact.Goals as goal

pub returns-then-saturating_sub-size : goal.returns-then-saturating_sub-size
returns-then-saturating_sub-size c =
    puts-nowhere (omega (arith, c.if-saturating_sub-size.true, c.size.ensures, c.saturating_sub.ensures))

pub put_at-requires : goal.put_at-requires
put_at-requires c =
    omega (arith, c.if-saturating_sub-size.false, c.size.ensures, c.saturating_sub.ensures, some_bytes c.args.v)

pub returns : goal.returns
returns c =
    puts-stored c.put_at.ensures.out_after c.put_at.ensures.value
