-- `utf8::is_short_ascii` meets its contract: blocks say what they reach, and ASCII is text. Assumes nothing.
use mathlib.Core.Bool.{false≢true}
use native.Mathlib.Omega.{arith}
use Rattle.utf8.proofs.Short.{sees, screens, covers-both}
use Rattle.utf8.proofs.is_short_ascii.Goals as goal

pub returns-then-s-start-lt16 : goal.returns-then-s-start-lt16
returns-then-s-start-lt16 c =
    record { text = λ e. absurd (false≢true e) }

pub returns-then-size-lt16 : goal.returns-then-size-lt16
returns-then-size-lt16 c =
    screens _ _ _ _ c.requires c.front.ensures

pub returns-then-size-lt32 : goal.returns-then-size-lt32
returns-then-size-lt32 c =
    sees _ _ _ _ c.requires
    (covers-both _ _ 16 _ 16 _ _ _ c.block.ensures c.block-then-size-lt32.ensures (omega arith) (omega arith) (omega arith))

pub returns : goal.returns
returns c =
    record { text = λ e. absurd (false≢true e) }
