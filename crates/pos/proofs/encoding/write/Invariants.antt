-- The loop has written the sites in front (`Writing`).
use Rattle.pos.proofs.Sites.{Writing}
use Rattle.pos.proofs.encoding.write.Given as goal

abbrev pub invariant-loop-k : goal.invariant-loop-k
invariant-loop-k g l = Writing (g.S.Sites.list l.sites) l.fn.out l.k l.at l.previous l.out
