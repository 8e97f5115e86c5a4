-- One field behind another.
use Rattle.emit.proofs.Laws.{puts-same, puts_then}
use Rattle.emit.proofs.Stripping.{method-in}
use Rattle.emit.proofs.chain.method.Goals as goal

pub returns : goal.returns
returns c =
    puts-same (method-in c.args.strip c.args.row) (puts_then c.opening-opened.ensures (puts_then c.index-named.ensures (puts_then c.octet-counted.ensures (puts_then c.small-operand.ensures c.position.ensures))))
