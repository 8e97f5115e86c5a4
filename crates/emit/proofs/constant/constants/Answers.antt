-- The top constants behind their count.
use Rattle.format.specs.Artifact.{levels}
use Rattle.emit.proofs.Growing.{tops-puts}
use Rattle.emit.proofs.Standing.{fit-stand}
use Rattle.emit.proofs.constant.constants.Goals as goal

pub items-all-requires : goal.items-all-requires
items-all-requires c =
    fit-stand c.requires

pub returns : goal.returns
returns c =
    tops-puts levels c.args.tops (fit-stand c.requires) c.number-behind.ensures c.items-all.ensures
