-- One field behind another.
use Rattle.emit.proofs.Laws.{puts-same, puts_then}
use Rattle.emit.proofs.Stripping.{index_in}
use Rattle.emit.proofs.chain.index_step.Goals as goal

pub returns : goal.returns
returns c =
    puts-same (index_in c.args.strip c.args.row) (puts_then c.opening-opened.ensures (puts_then c.small-operand.ensures (puts_then c.position-place.ensures c.position.ensures)))
