-- The first group is held (`Holding`); what stands behind it is read as a word.
use Rattle.std.proofs.Common.{arith}
use Rattle.varint.proofs.Read.{one_byte, one-held}
use Rattle.varint.proofs.long.Goals as goal

pub returns-then-first-lt128 : goal.returns-then-first-lt128
returns-then-first-lt128 c =
    record { taken_le_left = omega arith; at_value = (one_byte _ _ (omega arith) c.if-first-lt128.true) }

pub behind_one-requires : goal.behind_one-requires
behind_one-requires c =
    record { left_value = c.requires.left_value; le_left = c.requires.le_left; holding = (one-held _ _ (omega arith) c.if-first-lt128.false) }
