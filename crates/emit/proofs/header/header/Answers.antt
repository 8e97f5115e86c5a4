-- One field behind another.
use mathlib.Core.Path.{◌∙◌}
use Rattle.emit.proofs.Fields.{low-first}
use Rattle.emit.proofs.Laws.{puts-same, puts_then}
use Rattle.emit.proofs.header.header.Goals as goal

pub returns : goal.returns
returns c =
    let h = c.args.h in
    puts_then c.front-behind.ensures (puts_then (puts-same (c.to_le_bytes.ensures ∙ low-first 4 h.caps) c.bytes-caps.ensures) (puts_then (puts-same (c.to_le_bytes-2.ensures ∙ low-first 8 h.low) c.bytes-low.ensures) (puts-same (c.to_le_bytes-3.ensures ∙ low-first 8 h.high) c.bytes.ensures)))
