-- The chains that the rows mean, each with its steps, in the way asked.
use mathlib.Core.Path.{◌∙◌}
use Rattle.rows.specs.Back.{cut, chain_of, step_of}
use Rattle.emit.specs.Shares.{owned, chains_of}
use Rattle.emit.specs.Ways.{put_chain_in}
use Rattle.emit.proofs.Laws.{puts-same}
use Rattle.emit.proofs.Sharing.{owners-meant}
use Rattle.emit.proofs.Stripping.{chains-in}
use Rattle.emit.proofs.chain.chains.Goals as goal

pub returns : goal.returns
returns c =
    let a = c.args in
    puts-same (owners-meant (put_chain_in a.strip) (λ x. x.steps) chain_of step_of (cut 9 a.used a.t.now) (cut 11 (owned 6 9 a.used a.t.now) a.steps.now) ∙ chains-in a.strip (chains_of a.t.now a.used a.steps.now)) c.owners.ensures
