-- The top constants behind their count.
use Rattle.format.specs.Artifact.{levels}
use Rattle.emit.proofs.Standing.{fit-stand}
use Rattle.sizes.proofs.Grown.{tops-count}
use native.Mathlib.Omega.{arith}
use Rattle.sizes.proofs.constant.constants.Goals as goal

pub items-all-requires : goal.items-all-requires
items-all-requires c =
    record { at_bound = omega arith; items_stand = fit-stand c.requires.constants_fit }

pub returns : goal.returns
returns c =
    tops-count levels c.args.tops (fit-stand c.requires.constants_fit) c.number.ensures.value c.plus-behind.ensures c.items-all.ensures
