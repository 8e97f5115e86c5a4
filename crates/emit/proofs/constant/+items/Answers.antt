-- The function calls itself for the items of each constant, one level deeper: the levels left fall. In the loop `Growing`: the constants
-- before the next row are put, and the others still come.
use mathlib.Core.Path.{◌≡◌, ◌∙◌, ap}
use mathlib.Core.List.{List}
use native.Mathlib.Omega.{arith}
use Prim.Native.Nat.{ℕ, ◌+◌, ◌-◌}
use Rattle.rows.specs.Back.{constant_of, keyed_of}
use Rattle.rows.specs.Tree.{items_of}
use Rattle.emit.proofs.Growing.{growing-none, turn-of, growing-more, growing-alone, growing-done}
use Rattle.emit.proofs.constant.+items.Goals.{then-own-eq0, else-own-eq0}
use Rattle.emit.proofs.constant.+items.Goals as goal

pub loop-init : goal.loop-init
loop-init t c =
    let all : c.args.n - 0 ≡ c.args.n = omega arith in
    rw all (growing-none c.requires)

pub overflow_mul-next : goal.overflow_mul-next
overflow_mul-next t c =
    omega (arith, (turn-of c.args.deep (c.args.n - c.loop.counter) c.loop.invariant.stand (omega arith)).row)

pub of-row-requires : goal.of-row-requires
of-row-requires t c =
    omega (arith, (turn-of c.args.deep (c.args.n - c.loop.counter) c.loop.invariant.stand (omega arith)).row)

pub items-inner-requires : goal.items-inner-requires
items-inner-requires t c =
    let turn = turn-of c.args.deep (c.args.n - c.loop.counter) c.loop.invariant.stand (omega arith) in
    let own = c.items_of-own.ensures ∙ ap (λ (row : List ℕ). items_of (constant_of row)) c.of-row.ensures in
    (omega (arith, c.decreases, turn.deep), rw own turn.items)

pub loop-preserved : goal.loop-preserved
loop-preserved t c =
    let row = ap keyed_of c.of-row.ensures in
    let less : c.args.n - (c.loop.counter + 1) ≡ c.args.n - c.loop.counter - 1 = omega arith in
    elim c.if-own-eq0.branch [
      | then-own-eq0 w ↦ rw (less, w.out-is, w.place-is, w.next-is)
          (growing-alone c.args.deep (c.args.n - c.loop.counter) c.loop.invariant (omega arith) row c.items_of-own.ensures
          w.if-own-eq0.true c.key-behind.ensures c.head-told.ensures w.foot-place.ensures)
      | else-own-eq0 w ↦ rw (less, w.out-is, w.place-is, w.next-is)
          (growing-more c.args.deep (c.args.n - c.loop.counter) c.loop.invariant (omega arith) row c.items_of-own.ensures
          w.has_keys.ensures c.key-behind.ensures c.head-told.ensures w.items-inner.ensures w.foot-place-else-own-eq0.ensures)
    ]

pub returns : goal.returns
returns t c =
    growing-done c.args.deep (c.args.n - c.loop.counter) c.loop.invariant (omega arith)
