-- By the half that the word stands in.
use Rattle.emit.proofs.Fields.{fold-low, fold-high}
use Rattle.emit.proofs.numbers.folded.Goals as goal

pub returns-then-w-lt9223372036854775808 : goal.returns-then-w-lt9223372036854775808
returns-then-w-lt9223372036854775808 c =
    fold-low _ c.if-w-lt9223372036854775808.true

pub returns-else-w-lt9223372036854775808 : goal.returns-else-w-lt9223372036854775808
returns-else-w-lt9223372036854775808 c =
    fold-high _ c.ranges.w.fits c.if-w-lt9223372036854775808.false
