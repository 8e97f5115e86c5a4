-- The loop holds k groups, of which the first is there where any byte is.
use Rattle.std.proofs.Common.{arith}
use Rattle.varint.proofs.Groups.{holding-none, holding-last, holding-more}
use Rattle.varint.proofs.Read.{cut_short}
use Rattle.varint.proofs.short.Goals as goal

pub loop-k-init : goal.loop-k-init
loop-k-init c = λ some. holding-none _ _ (omega (arith, c.requires.left_value))

pub joined-value-requires : goal.joined-value-requires
joined-value-requires c =
    record { k_bound = omega (arith, c.requires.left_bound); value_bound = (c.loop-k.invariant (omega arith)).fits }

pub returns-then-group-lt128-clause-at_value : goal.returns-then-group-lt128-clause-at_value
returns-then-group-lt128-clause-at_value c =
    rw c.joined-value.ensures (holding-last (c.loop-k.invariant (omega arith)) (omega (arith, c.requires.left_bound)) (omega (arith, c.requires.left_value)) c.if-group-lt128.true)

pub loop-k-preserved : goal.loop-k-preserved
loop-k-preserved c =
    λ _. rw c.joined-value.ensures (holding-more (c.loop-k.invariant (omega arith)) (omega (arith, c.requires.left_bound)) (omega (arith, c.requires.left_value)) c.if-group-lt128.false)

pub returns-clause-at_value : goal.returns-clause-at_value
returns-clause-at_value c = cut_short c.requires.left_value c.requires.left_bound c.loop-k.invariant (omega arith)
