-- The function calls itself for the items of each constant that has any, one level deeper: the levels left fall. In the loop `Grown`: the
-- constants before the next row are counted, and the others still come.
use Prim.Native.Nat.{◌+◌, ◌-◌}
use mathlib.Core.Path.{◌≡◌, ap}
use native.Mathlib.Omega.{arith}
use Rattle.rows.specs.Back.{keyed_of}
use Rattle.emit.proofs.Growing.{turn-of}
use Rattle.sizes.proofs.Grown.{grown-none, grown-more, grown-leaf, grown-items, grown-done}
use Rattle.sizes.proofs.constant.+items.Goals.{then-own-eq0, else-own-eq0}
use Rattle.sizes.proofs.constant.+items.Goals as goal

pub loop-init : goal.loop-init
loop-init t c =
    let all : c.args.n - 0 ≡ c.args.n = omega arith in
    rw all (grown-none c.requires.items_stand c.requires.at_bound)

pub overflow_mul-next : goal.overflow_mul-next
overflow_mul-next t c =
    omega (arith, (turn-of c.args.deep (c.args.n - c.loop.counter) c.loop.invariant.stand (omega arith)).row)

pub of-row-requires : goal.of-row-requires
of-row-requires t c =
    omega (arith, (turn-of c.args.deep (c.args.n - c.loop.counter) c.loop.invariant.stand (omega arith)).row)

pub items-inner-requires : goal.items-inner-requires
items-inner-requires t c =
    let stand = c.loop.invariant.stand in
    let deep = (turn-of c.args.deep (c.args.n - c.loop.counter) stand (omega arith)).deep in
    let items = grown-items c.args.deep (c.args.n - c.loop.counter) (keyed_of c.of-row.result) stand (omega arith)
    (ap keyed_of c.of-row.ensures) c.items_of-own.ensures in
    (omega (arith, c.decreases, deep), (omega arith, items))

pub loop-preserved : goal.loop-preserved
loop-preserved t c =
    let keyed = keyed_of c.of-row.result in
    let row = ap keyed_of c.of-row.ensures in
    let less : c.args.n - (c.loop.counter + 1) ≡ c.args.n - c.loop.counter - 1 = omega arith in
    elim c.if-own-eq0.branch [
      | then-own-eq0 w ↦ rw (less, w.place-is, w.next-is)
          (grown-leaf c.args.deep (c.args.n - c.loop.counter) keyed c.loop.invariant (omega arith) row c.items_of-own.ensures
          w.if-own-eq0.true c.key.ensures c.constant-behind.ensures)
      | else-own-eq0 w ↦ rw (less, w.place-is, w.next-is)
          (grown-more c.args.deep (c.args.n - c.loop.counter) keyed c.loop.invariant (omega arith) row c.items_of-own.ensures
          w.has_keys.ensures c.key.ensures c.constant-behind.ensures w.items-inner.ensures)
    ]

pub returns : goal.returns
returns t c =
    grown-done c.args.deep (c.args.n - c.loop.counter) c.loop.invariant (omega arith)
