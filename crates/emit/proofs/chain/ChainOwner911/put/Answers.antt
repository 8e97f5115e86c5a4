-- One field behind another, in the way asked.
use Rattle.rows.specs.Back.{chain_of, step_of}
use Rattle.emit.specs.Shares.{chain_from}
use Rattle.emit.specs.Ways.{put_step_in}
use Rattle.emit.proofs.Laws.{puts-same, puts_then}
use Rattle.emit.proofs.Listing.{rows-meant}
use Rattle.emit.proofs.Stripping.{chain-in}
use Rattle.emit.proofs.chain.ChainOwner911.put.Goals as goal

pub returns : goal.returns
returns c =
    let strip = c.args.self.now.strip in
    puts-same (chain-in strip (chain_from (chain_of c.args.row) c.args.steps.now c.args.from)) (puts_then c.root-started.ensures (puts_then c.small-operands.ensures (puts_then (rows-meant (put_step_in strip) step_of _ c.list-behind.ensures) c.tail.ensures)))
