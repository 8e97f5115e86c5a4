-- The loop has read some chains and stored their rows, and those of their steps (`Both`).
use mathlib.Core.Path.{refl}
use Rattle.tables.proofs.Both.{both_none, both_refused, both_full, both_stopped, both_more, both_done}
use Rattle.chains.proofs.Words.{chain-width, step-width}
use Rattle.chains.proofs.chain_rows.Goals as goal

pub loop-init : goal.loop-init
loop-init c =
    both_none _ _ _ _ _ _ _ _ _ _ _ _

pub returns-then-places-own : goal.returns-then-places-own
returns-then-places-own c =
    both_refused refl (both_full c.loop.invariant c.loop-test.true c.if-places-own.true)

pub returns-in_err-chain : goal.returns-in_err-chain
returns-in_err-chain c =
    both_refused c.from_residual.ensures.1 (both_stopped c.loop.invariant c.loop-test.true c.if-places-own.false (rw c.loop.invariant.same_items at c.chain.ensures) c.in_err-chain.was)

pub loop-preserved : goal.loop-preserved
loop-preserved c =
    rw (c.store.ensures, c.into-row.ensures) (both_more c.loop.invariant c.loop-test.true c.if-places-own.false (rw c.loop.invariant.same_items at c.chain.ensures) c.in_ok-chain.was c.chain.auto.t chain-width step-width)

pub returns : goal.returns
returns c =
    both_done c.loop.invariant c.loop-test.false
