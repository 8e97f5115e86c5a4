-- The records that the rows mean, each with its share.
use Rattle.rows.specs.Back.{cut, function_of, parameter_of}
use Rattle.written.specs.Put.{put_function}
use Rattle.emit.specs.Shares.{owned}
use Rattle.emit.proofs.Laws.{puts-same}
use Rattle.emit.proofs.Sharing.{owners-meant}
use Rattle.emit.proofs.callable.functions.Goals as goal

pub returns : goal.returns
returns c =
    let a = c.args in
    puts-same (owners-meant put_function (λ x. x.parameters) function_of parameter_of (cut 7 a.used a.t.now) (cut 1 (owned 3 7 a.used a.t.now) a.parameters.now)) c.owners.ensures
