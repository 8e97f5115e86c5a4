-- Along the path of the code.
use native.Mathlib.Omega.{arith}
use lib.ListN.{length}
use Prim.Native.Nat.{◌-◌, ◌/◌}
use Rattle.constants.proofs.Keeping.{kept_err}
use Rattle.constants.proofs.Going.{going-no-key, going-refused, going_more, going_done}
use Rattle.constants.proofs.Stored.{whole, no_items, no-head, no_place, too-deep, one-level}
use Rattle.constants.proofs.+constant_items.Goals as goal

pub constant-returns-then-levels-eq0 : goal.constant-returns-then-levels-eq0
constant-returns-then-levels-eq0 t c = too-deep _ _ _ _ _ _ _ _ c.if-levels-eq0.true

pub constant-returns-then-t-used : goal.constant-returns-then-t-used
constant-returns-then-t-used t c =
    let a = c.args in
    one-level _ a.levels _ _ _ _ _ _ _ c.if-levels-eq0.false
    (no_place (length a.t.now / 8) (a.levels - 1) a.used a.s.now a.c a.key c.if-t-used.true _ _)

pub constant-returns-in_err-head : goal.constant-returns-in_err-head
constant-returns-in_err-head t c =
    let a = c.args in
    kept_err
    (one-level _ a.levels _ _ _ _ _ _ _ c.if-levels-eq0.false
    (no-head (length a.t.now / 8) (a.levels - 1) a.used a.s.now a.c a.key c.if-t-used.false _ c.in_err-head.ensures _ _))
    c.from_residual.ensures.1

pub constant-returns-in_err-behind : goal.constant-returns-in_err-behind
constant-returns-in_err-behind t c =
    let a = c.args in
    kept_err
    (one-level _ a.levels _ _ _ _ _ _ _ c.if-levels-eq0.false
    (no_items (length a.t.now / 8) (a.levels - 1) a.used a.s.now a.c a.key c.if-t-used.false _ _ c.in_ok-head.ensures a.t.now c.items.new.t _ _ c.in_err-behind.ensures))
    c.from_residual-in_err-behind.ensures.1

pub constant-returns : goal.constant-returns
constant-returns t c =
    let a = c.args in
    one-level _ a.levels _ _ _ _ _ _ _ c.if-levels-eq0.false
    (whole (length a.t.now / 8) (a.levels - 1) a.used a.s.now a.c a.key c.if-t-used.false _ _ c.in_ok-head.ensures a.t.now c.items.new.t _ _ _ _
    c.in_ok-behind.ensures c.closed.ensures)

pub items-returns-in_err-key : goal.items-returns-in_err-key
items-returns-in_err-key t c =
    kept_err (going-no-key c.loop.invariant c.loop-test.true c.in_err-key.ensures _) c.from_residual.ensures.1

pub items-returns-in_err-used : goal.items-returns-in_err-used
items-returns-in_err-used t c =
    let i = c.loop.invariant in
    kept_err (going-refused i c.in_ok-key.ensures c.loop-test.true (rw i.same at c.in_err-used.ensures)) c.from_residual-in_err-used.ensures.1

pub items-loop-preserved : goal.items-loop-preserved
items-loop-preserved t c =
    let i = c.loop.invariant in
    going_more i c.in_ok-key.ensures c.loop-test.true (rw i.same at c.in_ok-used.ensures) c.constant.auto.t

pub items-returns : goal.items-returns
items-returns t c = going_done c.loop.invariant (omega arith)
