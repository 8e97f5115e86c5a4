-- The loop has split k groups off and stored them (`Putting`).
use Rattle.std.proofs.Common.{lt_of_lt_of_le, arith, length-set}
use lib.Bits.{mask_lt}
use Rattle.varint.proofs.Shortest.{putting-none, inside-more, putting-more, inside-last, put-size, put-bytes}
use Rattle.varint.proofs.put_at.Goals as goal

pub loop-rest-init : goal.loop-rest-init
loop-rest-init c =
    putting-none _ _ _ c.ranges.value.fits c.requires

pub overflow_cast-out : goal.overflow_cast-out
overflow_cast-out c =
    record { fits = lt_of_lt_of_le (mask_lt c.loop-rest.rest 7) (omega arith) }

pub overflow_add-out : goal.overflow_add-out
overflow_add-out c =
    omega (arith, inside-more c.loop-rest.invariant c.loop-rest-test.true, c.loop-rest.invariant.same)

pub bounds-out-at : goal.bounds-out-at
bounds-out-at c =
    inside-more c.loop-rest.invariant c.loop-rest-test.true

pub loop-rest-smaller : goal.loop-rest-smaller
loop-rest-smaller c =
    omega (arith, (putting-more c.loop-rest.invariant c.loop-rest-test.true).split.few)

pub loop-rest-preserved : goal.loop-rest-preserved
loop-rest-preserved c =
    putting-more c.loop-rest.invariant c.loop-rest-test.true

pub overflow_add-out-2 : goal.overflow_add-out-2
overflow_add-out-2 c =
    omega (arith, inside-last c.loop-rest.invariant c.loop-rest-test.false, c.loop-rest.invariant.same)

pub bounds-out-at-2 : goal.bounds-out-at-2
bounds-out-at-2 c =
    inside-last c.loop-rest.invariant c.loop-rest-test.false

pub overflow_add-result : goal.overflow_add-result
overflow_add-result c =
    omega (arith, inside-last c.loop-rest.invariant c.loop-rest-test.false, c.loop-rest.invariant.same)

pub overflow_add-result-2 : goal.overflow_add-result-2
overflow_add-result-2 c =
    omega (arith, inside-last c.loop-rest.invariant c.loop-rest-test.false, c.loop-rest.invariant.same)

pub shape_of-out : goal.shape_of-out
shape_of-out c =
    simp length-set c.loop-rest.invariant.same

pub returns : goal.returns
returns c =
    record { value = put-size c.loop-rest.invariant c.loop-rest-test.false; out_after = put-bytes c.loop-rest.invariant c.loop-rest-test.false }
