-- Three bytes by themselves, or any index.
use Prim.Native.Nat.{◌+◌}
use native.Mathlib.Omega.{arith}
use Rattle.sections.proofs.Three.{index-three}
use Rattle.sections.proofs.names.end.Goals as goal

pub returns : goal.returns
returns c =
    rw (c.advance.ensures, c.from.ensures, c.from-2.ensures, c.from-3.ensures)
    (index-three c.args.s.now c.args.c (omega arith) c.if-low-lt128.false (c.type_inv.s c.args.c.at).fits c.if-mid-lt128.false
    (omega (arith, c.type_inv.s (c.args.c.at + 1))) c.if-top-ge128.false)
