-- A number that is not negative is its own bits; of a negative one they are the complement of its complement.
use native.Mathlib.Omega.{arith}
use Rattle.varint.proofs.Halves.{not_negative, negative}
use Rattle.fields.proofs.Bits.{not-negative-bits, negative-bits}
use Rattle.fields.proofs.bits_of.Goals as goal

pub overflow_cast-result : goal.overflow_cast-result
overflow_cast-result c =
    let half = not_negative _ c.ranges.z c.if-z-ge0.true in rw half.is (tt, record { fits = omega (arith, half.small) })

pub overflow_cast-result-else-z-ge0 : goal.overflow_cast-result-else-z-ge0
overflow_cast-result-else-z-ge0 c =
    let half = negative _ c.ranges.z c.if-z-ge0.false in rw half.is (tt, record { fits = omega (arith, half.small) })

pub returns-then-z-ge0 : goal.returns-then-z-ge0
returns-then-z-ge0 c =
    not-negative-bits _ c.ranges.z c.if-z-ge0.true

pub returns-else-z-ge0 : goal.returns-else-z-ge0
returns-else-z-ge0 c =
    negative-bits _ c.ranges.z c.if-z-ge0.false
