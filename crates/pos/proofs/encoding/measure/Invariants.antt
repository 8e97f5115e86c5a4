-- The loop has measured the sites in front (`Measuring`).
use Rattle.pos.proofs.Sites.{Measuring}
use Rattle.pos.proofs.encoding.measure.Given as goal

abbrev pub invariant-loop-k : goal.invariant-loop-k
invariant-loop-k g l = Measuring (g.S.Sites.list l.sites) l.k l.kept l.size l.previous
