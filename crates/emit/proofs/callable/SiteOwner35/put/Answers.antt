-- One field behind another.
use Rattle.rows.specs.Back.{input_of}
use Rattle.written.specs.Put.{put_input}
use Rattle.emit.proofs.Laws.{puts_then}
use Rattle.emit.proofs.Listing.{rows-meant}
use Rattle.emit.proofs.callable.SiteOwner35.put.Goals as goal

pub returns : goal.returns
returns c =
    puts_then c.index-key.ensures (puts_then c.index-state.ensures (rows-meant put_input input_of _ c.list.ensures))
