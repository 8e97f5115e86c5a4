-- The loop has read some sites and stored their rows, and those of their inputs (`Both`).
use mathlib.Core.Path.{refl}
use Rattle.tables.proofs.Both.{both_none, both_refused, both_full, both_stopped, both_more, both_done}
use Rattle.callables.proofs.Widths.{input-wide}
use Rattle.callables.proofs.customs.site_rows.Goals as goal

pub loop-init : goal.loop-init
loop-init c =
    both_none _ _ _ _ _ _ _ _ _ _ _ _

pub returns-then-places-own : goal.returns-then-places-own
returns-then-places-own c =
    both_refused refl (both_full c.loop.invariant c.loop-test.true c.if-places-own.true)

pub returns-in_err-site : goal.returns-in_err-site
returns-in_err-site c =
    both_refused c.from_residual.ensures.1 (both_stopped c.loop.invariant c.loop-test.true c.if-places-own.false (rw c.loop.invariant.same_items at c.site.ensures) c.in_err-site.was)

pub loop-preserved : goal.loop-preserved
loop-preserved c =
    rw (c.store.ensures, c.into-row.ensures) (both_more c.loop.invariant c.loop-test.true c.if-places-own.false (rw c.loop.invariant.same_items at c.site.ensures) c.in_ok-site.was c.site.auto.inputs (λ x. refl) input-wide)

pub returns : goal.returns
returns c =
    both_done c.loop.invariant c.loop-test.false
