-- One field behind another.
use Rattle.emit.proofs.Laws.{puts-same, puts_then}
use Rattle.emit.proofs.Stripping.{property-in}
use Rattle.emit.proofs.chain.property.Goals as goal

pub returns : goal.returns
returns c =
    puts-same (property-in c.args.strip c.args.row) (puts_then c.opening-opened.ensures (puts_then c.index-named.ensures (puts_then c.index-got.ensures (puts_then c.index-set.ensures c.position.ensures))))
