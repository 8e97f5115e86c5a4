-- A byte more is covered.
use Rattle.utf8.proofs.Ascii.{covers-none, covers_more}
use Rattle.utf8.proofs.block.Goals as goal

pub loop-k-init : goal.loop-k-init
loop-k-init g c =
    covers-none _ _ _

pub loop-k-preserved : goal.loop-k-preserved
loop-k-preserved g c =
    covers_more _ _ _ _ c.loop-k.invariant
