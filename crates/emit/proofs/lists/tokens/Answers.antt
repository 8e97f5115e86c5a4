-- What the rows mean.
use Rattle.rows.specs.Back.{span_of}
use Rattle.model.specs.Lent.{clip}
use Rattle.written.specs.Put.{put_bytes}
use Rattle.emit.proofs.Listing.{rows-meant}
use Rattle.emit.proofs.lists.tokens.Goals as goal

pub returns : goal.returns
returns c =
    rows-meant put_bytes (λ row. clip c.args.s.now (span_of row)) _ c.list.ensures
