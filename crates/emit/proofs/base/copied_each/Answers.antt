-- The loop has copied i bytes (`Copying`).
use native.Mathlib.Omega.{arith}
use Rattle.emit.proofs.Texts.{copying-none, copying-more, copying-all}
use Rattle.emit.proofs.base.copied_each.Goals as goal

pub loop-i-init : goal.loop-i-init
loop-i-init c = copying-none c.requires.there

pub bounds-out-at : goal.bounds-out-at
bounds-out-at c = omega (arith, c.loop-i.invariant.same, c.requires.room)

pub loop-i-preserved : goal.loop-i-preserved
loop-i-preserved c = copying-more c.loop-i.invariant (omega arith)

pub returns : goal.returns
returns c = copying-all c.loop-i.invariant (omega arith)
