-- The records that the rows mean, each with its share.
use Rattle.rows.specs.Back.{cut, site_of, input_of}
use Rattle.written.specs.Put.{put_site}
use Rattle.emit.specs.Shares.{owned}
use Rattle.emit.proofs.Laws.{puts-same}
use Rattle.emit.proofs.Sharing.{owners-meant}
use Rattle.emit.proofs.callable.sites.Goals as goal

pub returns : goal.returns
returns c =
    let a = c.args in
    puts-same (owners-meant put_site (λ x. x.inputs) site_of input_of (cut 3 a.used a.t.now) (cut 5 (owned 2 3 a.used a.t.now) a.inputs.now)) c.owners.ensures
