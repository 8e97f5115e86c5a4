-- One field behind another.
use Rattle.emit.proofs.Laws.{puts_then}
use Rattle.emit.proofs.lists.AssignRecord6.put.Goals as goal

pub returns : goal.returns
returns c =
    puts_then c.text-token.ensures (puts_then c.index-named.ensures (puts_then c.text-other.ensures c.index.ensures))
