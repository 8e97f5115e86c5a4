-- By its size.
use Rattle.sizes.proofs.Laws.{counts-size}
use Rattle.sizes.proofs.Records.{function-size}
use Rattle.sizes.proofs.callable.FunctionCounted7.count.Goals as goal

pub returns : goal.returns
returns c =
    counts-size (function-size c.args.row c.index.ensures.value c.typed.ensures c.number.ensures.value c.number-2.ensures.value c.index-2.ensures.value c.index-3.ensures.value c.small.ensures.value) c.plus.ensures
