-- A step more, and at the end all of them.
use mathlib.Core.Path.{◌≡◌}
use native.Mathlib.Omega.{arith}
use Rattle.utf8.proofs.Walks.{walked_here, walked_then, step-walked}
use Rattle.utf8.proofs.walk.Goals as goal

pub loop-at-init : goal.loop-at-init
loop-at-init c =
    walked_here _ _ _ c.requires.numbered (omega arith)

pub loop-at-preserved : goal.loop-at-preserved
loop-at-preserved c =
    walked_then _ _ _ _ _ _ _ c.loop-at.invariant (step-walked _ _ _ _ (omega arith) c.next_state-state.ensures)

pub returns : goal.returns
returns c =
    let end : c.loop-at.at ≡ c.args.end = omega arith in
    rw end at c.loop-at.invariant
