-- One field behind another.
use Rattle.emit.proofs.Laws.{puts_then}
use Rattle.emit.proofs.callable.InputRecord5.put.Goals as goal

pub returns : goal.returns
returns c =
    puts_then c.chunk-behind.ensures c.literal.ensures
