-- Both halves, joined.
use Rattle.writing.proofs.Counted.{counts-halves}
use Rattle.writing.proofs.count.count.Goals as goal

pub returns : goal.returns
returns c =
    counts-halves c.args.strip c.requires c.front-middle.ensures c.back.ensures
