-- The loop has read some switches and stored their rows, their cases' and their ranges' (`Switching`).
use Rattle.switches.proofs.Switching.{Switching}
use Rattle.switches.proofs.switch_rows.Given as goal

abbrev pub invariant-loop : goal.invariant-loop
invariant-loop l = Switching l.tops l.s l.initial.at l.n l.initial.t l.t l.initial.cases l.cases l.initial.ranges l.ranges l.at l.counter l.used l.cased l.ranged
