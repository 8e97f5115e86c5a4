-- The loop stands by its law (Standing), for each test that the closure decides.
use Rattle.std.proofs.Common.{Bool}
use Rattle.rules.specs.Walks.{Decides}
use Rattle.rules.proofs.Standing.{Standing}
use Rattle.rules.proofs.each.every.Given as goal

abbrev pub invariant-loop-row : goal.invariant-loop-row
invariant-loop-row g l = (test : g.row.R.Denot → Bool) → Decides (goal.F-post g l.keeps) test → Standing test l.rows l.row-index
