-- The loop has measured the sites in front (`Measuring`).
use Rattle.std.proofs.Common.{arith}
use Rattle.pos.proofs.Puts.{entry-small, short-ten}
use Rattle.pos.proofs.Sites.{measuring_none, measuring_dropped, measuring_first, measuring_more, measuring_falls, measuring_all}
use Rattle.pos.proofs.encoding.measure.Goals as goal
use Rattle.pos.proofs.encoding.measure.Goals.{else-address-previous-via-then-address-previous+else-kept-ne0, else-address-previous-via-else-address-previous}

pub loop-k-init : goal.loop-k-init
loop-k-init g c =
    measuring_none _

pub loop-k-preserved-then-site-eq0 : goal.loop-k-preserved-then-site-eq0
loop-k-preserved-then-site-eq0 g c =
    measuring_dropped c.loop-k.invariant c.site-site.result (omega arith) c.site-site.ensures c.if-site-eq0.true

pub returns-then-kept-ne0 : goal.returns-then-kept-ne0
returns-then-kept-ne0 g c =
    measuring_falls c.loop-k.invariant c.site-site.result (omega arith) c.site-site.ensures c.if-site-eq0.false c.if-kept-ne0.true c.if-address-previous.true

pub overflow_add-size : goal.overflow_add-size
overflow_add-size g c =
    omega (arith, c.entry_size-size.ensures, entry-small c.loop-k.previous c.site-site.result)

pub loop-k-preserved : goal.loop-k-preserved
loop-k-preserved g c =
    rw c.entry_size-size.ensures (elim c.else-address-previous.branch [
      | else-address-previous-via-then-address-previous+else-kept-ne0 w ↦
          measuring_first c.loop-k.invariant c.site-site.result (omega arith) c.site-site.ensures c.if-site-eq0.false w.if-kept-ne0.false
      | else-address-previous-via-else-address-previous w ↦
          measuring_more c.loop-k.invariant c.site-site.result (omega arith) c.site-site.ensures c.if-site-eq0.false w.if-address-previous.false
    ])

pub overflow_add-result : goal.overflow_add-result
overflow_add-result g c =
    omega (arith, c.size.ensures, short-ten c.loop-k.kept)

pub returns : goal.returns
returns g c =
    rw c.size.ensures (measuring_all c.loop-k.invariant (omega arith))
