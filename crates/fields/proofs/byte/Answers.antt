-- A byte stands at the place, or none does.
use Rattle.fields.proofs.Runs.{no_byte, byte-there}
use native.Mathlib.Omega.{arith}
use Rattle.fields.proofs.byte.Goals as goal

pub returns-then-s-at : goal.returns-then-s-at
returns-then-s-at c =
    no_byte _ _ c.if-s-at.true

pub returns : goal.returns
returns c =
    rw c.advance.ensures (byte-there _ _ (omega arith))
