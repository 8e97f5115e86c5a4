-- Three single bytes are stored as they are; any three numbers are put one behind the other.
use Rattle.std.proofs.Common.{◌+◌, ◌≤◌, length, ap, arith, length-set}
use Rattle.pos.proofs.Shorts.{low-left, low-right, low-one, low-two, low-three}
use Rattle.pos.proofs.Puts.{entry-size, plain_size, plain-put, room-line, room-column, put_three}
use Rattle.pos.proofs.encoding.put_entry.Goals as goal
use Rattle.pos.proofs.encoding.put_entry.Goals.{Then-step-site-lt128}

room : (c : Then-step-site-lt128) → c.args.at + 3 ≤ length c.args.out.now
room c = omega (arith, c.requires, plain_size c.args.previous c.args.site c.saturating_sub-step.ensures c.if-step-site-lt128.true)

pub overflow_cast-out : goal.overflow_cast-out
overflow_cast-out c =
    omega (arith, low-one c.saturating_sub-step.result c.args.site.line c.args.site.column c.if-step-site-lt128.true)

pub bounds-out-at : goal.bounds-out-at
bounds-out-at c =
    omega (arith, room c)

pub overflow_cast-out-then-step-site-lt128 : goal.overflow_cast-out-then-step-site-lt128
overflow_cast-out-then-step-site-lt128 c =
    omega (arith, low-two c.saturating_sub-step.result c.args.site.line c.args.site.column c.if-step-site-lt128.true)

pub bounds-out-at-then-step-site-lt128 : goal.bounds-out-at-then-step-site-lt128
bounds-out-at-then-step-site-lt128 c =
    simp length-set (omega (arith, room (goal.at.bounds-out-at-then-step-site-lt128 c).Then-step-site-lt128))

pub overflow_cast-out-then-step-site-lt128-2 : goal.overflow_cast-out-then-step-site-lt128-2
overflow_cast-out-then-step-site-lt128-2 c =
    omega (arith, low-three c.saturating_sub-step.result c.args.site.line c.args.site.column c.if-step-site-lt128.true)

pub bounds-out-at-then-step-site-lt128-2 : goal.bounds-out-at-then-step-site-lt128-2
bounds-out-at-then-step-site-lt128-2 c =
    simp length-set (omega (arith, room (goal.at.bounds-out-at-then-step-site-lt128-2 c).Then-step-site-lt128))

pub returns-then-step-site-lt128 : goal.returns-then-step-site-lt128
returns-then-step-site-lt128 c =
    record { value = ap (λ n. c.args.at + n) (plain_size _ _ c.saturating_sub-step.ensures c.if-step-site-lt128.true); out_after = plain-put _ _ c.saturating_sub-step.ensures c.if-step-site-lt128.true _ _ }

pub put_byte-line-requires : goal.put_byte-line-requires
put_byte-line-requires c =
    record { value_bound = omega (arith, low-left c.saturating_sub-step.result c.args.site.column, c.if-step-site-lt128-2.true); value_in_bounds = rw c.saturating_sub-step.ensures (omega (arith, c.requires, entry-size c.args.previous c.args.site)) }

pub put-column-requires : goal.put-column-requires
put-column-requires c =
    room-line _ _ _ _ c.saturating_sub-step.ensures c.put_byte-line.ensures.value c.put_byte-line.ensures.out_after c.requires

pub put_byte-requires : goal.put_byte-requires
put_byte-requires c =
    record { value_bound = omega (arith, low-right c.saturating_sub-step.result c.args.site.column, c.if-step-site-lt128-2.true); value_in_bounds = room-column _ _ _ _ c.saturating_sub-step.ensures c.put_byte-line.ensures.value c.put_byte-line.ensures.out_after c.put-column.ensures.value c.put-column.ensures.out_after c.requires }

pub returns-then-step-site-lt128-2 : goal.returns-then-step-site-lt128-2
returns-then-step-site-lt128-2 c =
    record { value = (put_three _ _ _ _ c.saturating_sub-step.ensures c.put_byte-line.ensures.value c.put_byte-line.ensures.out_after c.put-column.ensures.value c.put-column.ensures.out_after c.put_byte.ensures.value c.put_byte.ensures.out_after).0; out_after = (put_three _ _ _ _ c.saturating_sub-step.ensures c.put_byte-line.ensures.value c.put_byte-line.ensures.out_after c.put-column.ensures.value c.put-column.ensures.out_after c.put_byte.ensures.value c.put_byte.ensures.out_after).1 }

pub put-line-requires : goal.put-line-requires
put-line-requires c =
    rw c.saturating_sub-step.ensures (omega (arith, c.requires, entry-size c.args.previous c.args.site))

pub put-column-requires-2 : goal.put-column-requires-2
put-column-requires-2 c =
    room-line _ _ _ _ c.saturating_sub-step.ensures c.put-line.ensures.value c.put-line.ensures.out_after c.requires

pub put-requires : goal.put-requires
put-requires c =
    room-column _ _ _ _ c.saturating_sub-step.ensures c.put-line.ensures.value c.put-line.ensures.out_after c.put-column-2.ensures.value c.put-column-2.ensures.out_after c.requires

pub returns : goal.returns
returns c =
    record { value = (put_three _ _ _ _ c.saturating_sub-step.ensures c.put-line.ensures.value c.put-line.ensures.out_after c.put-column-2.ensures.value c.put-column-2.ensures.out_after c.put.ensures.value c.put.ensures.out_after).0; out_after = (put_three _ _ _ _ c.saturating_sub-step.ensures c.put-line.ensures.value c.put-line.ensures.out_after c.put-column-2.ensures.value c.put-column-2.ensures.out_after c.put.ensures.value c.put.ensures.out_after).1 }
