-- The loop has written the sites in front (`Writing`).
use Rattle.std.proofs.Common.{zero-add, arith}
use Rattle.pos.proofs.Sites.{count_fits, writing_none, writing_dropped, writing_room, writing_more, writing_all}
use Rattle.pos.proofs.encoding.write.Goals as goal

pub put_at-at-requires : goal.put_at-at-requires
put_at-at-requires g c =
    rw (zero-add _) (count_fits _ _ c.requires.counted c.requires.room)

pub loop-k-init : goal.loop-k-init
loop-k-init g c =
    writing_none _ _ c.requires.counted c.requires.room c.put_at-at.ensures.value c.put_at-at.ensures.out_after

pub loop-k-preserved-then-site-eq0 : goal.loop-k-preserved-then-site-eq0
loop-k-preserved-then-site-eq0 g c =
    writing_dropped c.loop-k.invariant c.site-site.result (omega arith) c.site-site.ensures c.if-site-eq0.true

pub put_entry-at-requires : goal.put_entry-at-requires
put_entry-at-requires g c =
    writing_room c.loop-k.invariant c.site-site.result (omega arith) c.site-site.ensures c.if-site-eq0.false

pub loop-k-preserved : goal.loop-k-preserved
loop-k-preserved g c =
    writing_more c.loop-k.invariant c.site-site.result (omega arith) c.site-site.ensures c.if-site-eq0.false
    c.put_entry-at.ensures.value c.put_entry-at.ensures.out_after

pub returns : goal.returns
returns g c =
    writing_all c.loop-k.invariant (omega arith)
