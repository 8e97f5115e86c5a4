-- What the rows mean.
use Rattle.rows.specs.Back.{assign_of}
use Rattle.model.specs.Tables.{assign_means}
use Rattle.written.specs.Put.{put_assign}
use Rattle.emit.proofs.Listing.{rows-meant}
use Rattle.emit.proofs.lists.assigns.Goals as goal

pub returns : goal.returns
returns c =
    rows-meant put_assign (λ row. assign_means c.args.s.now (assign_of row)) _ c.list.ensures
