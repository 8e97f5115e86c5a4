-- What the rows mean.
use Rattle.grammar.specs.Number.{shortest}
use Rattle.rows.specs.Back.{end_of}
use Rattle.emit.proofs.Listing.{rows-meant}
use Rattle.emit.proofs.lists.name_ends.Goals as goal

pub returns : goal.returns
returns c =
    rows-meant shortest end_of _ c.list.ensures
