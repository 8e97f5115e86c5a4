-- Sixteen at once, of which n count.
use Prim.Native.Nat.{◌+◌, ◌-◌}
use mathlib.Core.Path.{◌≡◌}
use native.Mathlib.Omega.{arith}
use Rattle.emit.proofs.Texts.{sixteen-puts}
use Rattle.emit.proofs.base.copied.Goals as goal

pub returns-then-saturating_sub-ge16 : goal.returns-then-saturating_sub-ge16
returns-then-saturating_sub-ge16 c =
    let all : c.args.from + 16 - c.args.from ≡ 16 = omega arith in
    sixteen-puts c.args.text.now c.args.from c.args.n c.if-n-le16.true (rw all at c.copy_from_slice.ensures.after) (omega arith) (omega arith) (omega arith)
