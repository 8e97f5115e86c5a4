-- The two tests are that n bytes stand from the place on.
use native.Mathlib.Omega.{arith}
use Rattle.fields.proofs.Runs.{too_few, enough-there}
use Rattle.fields.proofs.take.Goals as goal

pub returns-then-s-at : goal.returns-then-s-at
returns-then-s-at c =
    too_few _ _ _ (omega arith)

pub returns-then-left-n : goal.returns-then-left-n
returns-then-left-n c =
    too_few _ _ _ (omega arith)

pub returns : goal.returns
returns c =
    rw c.advance.ensures (enough-there _ _ _ (omega arith))
