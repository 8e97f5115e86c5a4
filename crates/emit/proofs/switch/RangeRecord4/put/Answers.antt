-- One field behind another.
use Rattle.emit.proofs.Laws.{puts-same, puts_then}
use Rattle.emit.proofs.Fields.{inclusive-word}
use Rattle.rows.specs.Back.{word}
use Rattle.emit.proofs.switch.RangeRecord4.put.Goals as goal

pub returns : goal.returns
returns c =
    puts_then c.signed-from.ensures (puts_then c.signed-to.ensures (puts_then (puts-same (inclusive-word (word c.args.row 2)) c.flag-told.ensures) c.index.ensures))
