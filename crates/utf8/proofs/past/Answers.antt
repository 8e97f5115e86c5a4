-- A block more is passed.
use native.Mathlib.Omega.{arith}
use Rattle.utf8.proofs.Ascii.{passed_here, passed_then, block-passed}
use Rattle.utf8.proofs.past.Goals as goal

pub loop-at-init : goal.loop-at-init
loop-at-init g c =
    passed_here _ _ c.requires.from_in_bounds

pub loop-at-preserved : goal.loop-at-preserved
loop-at-preserved g c =
    passed_then _ _ _ _ c.loop-at.invariant
    (block-passed _ _ _ _ (omega arith) c.block.ensures (omega arith))
