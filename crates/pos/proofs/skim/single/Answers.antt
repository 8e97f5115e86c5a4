-- The one byte of the count.
use Rattle.std.proofs.Common.{arith}
use Rattle.pos.proofs.Shorts.{field-one}
use Rattle.pos.proofs.skim.single.Goals as goal

pub returns : goal.returns
returns c = field-one _ _ (omega arith) c.if-count-ge128.false
