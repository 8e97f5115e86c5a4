-- Both halves, joined.
use Rattle.writing.proofs.Joined.{puts-halves}
use Rattle.writing.proofs.lay.lay.Goals as goal

pub returns : goal.returns
returns c =
    puts-halves c.args.strip c.requires c.front-middle.ensures c.back.ensures
