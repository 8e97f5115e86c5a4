-- One test of the bytes left, then of the bytes themselves.
use Rattle.std.proofs.Common.{arith}
use Rattle.pos.proofs.Shorts.{whole-three}
use Rattle.pos.proofs.skim.site.Goals as goal

pub returns : goal.returns
returns c = whole-three _ _ (omega arith) c.if-step-line-ge128.false
