-- The loop stands by its law (Sharing).
use Rattle.rules.proofs.Sharing.{Sharing}
use Rattle.rules.proofs.shares.shares_use.Given as goal

abbrev pub invariant-loop-row : goal.invariant-loop-row
invariant-loop-row g l = Sharing l.rows l.word l.n l.row-index l.left
