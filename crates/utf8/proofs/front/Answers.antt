-- `utf8::front` meets its contract. The loop's invariant: the bits so far screen the bytes passed that belong to the text. Assumes nothing.
use mathlib.Core.Path.{◌≡◌}
use Prim.Native.Nat.{min}
use borrow.Author.Rules.{rules}
use native.Mathlib.Omega.{arith}
use Rattle.utf8.proofs.Short.{screens-none, screens-more}
use Rattle.utf8.proofs.front.Goals as goal

pub loop-i-init : goal.loop-i-init
loop-i-init c =
    (omega arith, screens-none _ _ _ _)

pub loop-i-preserved : goal.loop-i-preserved
loop-i-preserved c =
    (search rules, screens-more _ _ _ _ _ _ (λ l. omega arith) (omega arith) (omega (arith, c.type_inv.bytes c.loop-i.i)) c.loop-i.invariant.1)

pub returns : goal.returns
returns c =
    let all : min c.loop-i.i c.args.n ≡ c.args.n = omega arith in
    rw all at c.loop-i.invariant.1
