-- The count, the chains without their steps, and the steps.
use mathlib.Core.Path.{refl, ap}
use lib.ListN.{length}
use Rattle.rows.specs.Back.{chain_of, step_of}
use Rattle.emit.specs.Shares.{chains_of}
use Rattle.emit.specs.Ways.{put_step_in, put_chain_in}
use Rattle.emit.proofs.Stripping.{chains-in}
use Rattle.sizes.specs.Own.{own_chain}
use Rattle.sizes.proofs.Laws.{counts_same}
use Rattle.sizes.proofs.Apart.{shares-count}
use Rattle.sizes.proofs.Steps.{chain-apart}
use Rattle.sizes.proofs.chain.chains.Goals as goal

pub returns : goal.returns
returns c =
    let a = c.args in counts_same (ap length (chains-in a.strip (chains_of a.t.now a.used a.steps.now))) (shares-count (put_chain_in a.strip) (own_chain a.strip) (put_step_in a.strip) (λ x. x.steps) (chain-apart a.strip) 6 9 chain_of a.used a.t.now 11 step_of a.steps.now (λ row. refl) c.number.ensures.value c.plus.ensures c.rows-behind.ensures c.requires.owned_value c.rows.ensures)
