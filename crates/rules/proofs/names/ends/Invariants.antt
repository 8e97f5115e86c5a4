-- The loop stands by its law (Ending).
use Rattle.rules.proofs.Ending.{Ending}
use Rattle.rules.proofs.names.ends.Given as goal

abbrev pub invariant-loop-end : goal.invariant-loop-end
invariant-loop-end l = Ending l.ends l.size l.end-index l.before
