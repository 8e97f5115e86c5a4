-- One field behind another.
use Rattle.rows.specs.Back.{case_of, range_of}
use Rattle.written.specs.Put.{put_case, put_range}
use Rattle.emit.proofs.Laws.{puts_then}
use Rattle.emit.proofs.Listing.{rows-meant}
use Rattle.emit.proofs.switch.switch.Goals as goal

pub returns : goal.returns
returns c =
    puts_then (rows-meant put_case case_of _ c.list-listed.ensures) (puts_then (rows-meant put_range range_of _ c.list-ranged.ensures) c.index.ensures)
