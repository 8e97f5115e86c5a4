-- The loop has read some functions and stored their rows, and those of their parameters (`Both`).
use mathlib.Core.Path.{refl}
use Rattle.tables.proofs.Both.{both_none, both_refused, both_full, both_stopped, both_more, both_done}
use Rattle.callables.proofs.functions.function_rows.Goals as goal

pub loop-init : goal.loop-init
loop-init c =
    both_none _ _ _ _ _ _ _ _ _ _ _ _

pub returns-then-places-own : goal.returns-then-places-own
returns-then-places-own c =
    both_refused refl (both_full c.loop.invariant c.loop-test.true c.if-places-own.true)

pub returns-in_err-function : goal.returns-in_err-function
returns-in_err-function c =
    both_refused c.from_residual.ensures.1 (both_stopped c.loop.invariant c.loop-test.true c.if-places-own.false (rw c.loop.invariant.same_items at c.function.ensures) c.in_err-function.was)

pub loop-preserved : goal.loop-preserved
loop-preserved c =
    rw (c.store.ensures, c.into-row.ensures) (both_more c.loop.invariant c.loop-test.true c.if-places-own.false (rw c.loop.invariant.same_items at c.function.ensures) c.in_ok-function.was c.function.auto.parameters (λ x. refl) (λ y. refl))

pub returns : goal.returns
returns c =
    both_done c.loop.invariant c.loop-test.false
