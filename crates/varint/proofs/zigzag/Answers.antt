-- Twice the number, or twice its complement and one: both fit, since the number has 63 bits beside its sign.
use Rattle.std.proofs.Common.{◌-◌, ◌^◌, sym, arith, w64, to_z, of_z}
use Rattle.varint.proofs.Halves.{Half, not_negative, negative, doubled, doubled-one}
use Rattle.varint.proofs.zigzag.Goals as goal
use Rattle.varint.proofs.zigzag.Goals.{Else-z-ge0, Then-z-ge0}

not_neg : (c : Then-z-ge0) → Half c.args.z (to_z w64 (of_z w64 c.args.z)) 0
not_neg c = not_negative _ c.ranges.z c.if-z-ge0.true

neg : (c : Else-z-ge0) → Half c.args.z (to_z w64 ((2 ^ 64 - 1) - of_z w64 c.args.z)) 1
neg c = negative _ c.ranges.z c.if-z-ge0.false

pub overflow_cast-result : goal.overflow_cast-result
overflow_cast-result c =
    rw (not_neg c).is (tt, record { fits = omega (arith, (not_neg c).small) })

pub overflow_cast-result-else-z-ge0 : goal.overflow_cast-result-else-z-ge0
overflow_cast-result-else-z-ge0 c =
    rw (neg c).is (tt, record { fits = omega (arith, (neg c).small) })

pub returns-then-z-ge0 : goal.returns-then-z-ge0
returns-then-z-ge0 c =
    rw ((not_neg c).is, doubled (not_neg c).half (not_neg c).small) (omega (arith, (not_neg c).means))

pub returns-else-z-ge0 : goal.returns-else-z-ge0
returns-else-z-ge0 c =
    rw ((neg c).is, doubled-one (neg c).half (neg c).small) (sym (neg c).means)
