-- The loop has read some ends and stored them, and knows of them what the rule asks.
use Rattle.sections.proofs.Ending.{Ending}
use Rattle.sections.proofs.names.end_rows.Given as goal

abbrev pub invariant-loop : goal.invariant-loop
invariant-loop l = Ending l.s l.initial.at l.n l.initial.t l.t l.at l.counter l.used l.last
