-- Ten bytes are the most.
use native.Mathlib.Omega.{arith}
use Rattle.sizes.proofs.Laws.{short}
use Rattle.sizes.proofs.base.number.Goals as goal

pub returns : goal.returns
returns c =
    record { value = c.size.ensures; upper_bound = omega (arith, c.size.ensures, short c.args.v) }
