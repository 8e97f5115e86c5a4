-- The loop stands by its law (Entering), for each test that the closure decides.
use Rattle.std.proofs.Common.{ℕ, Bool, List}
use Rattle.rules.specs.Walks.{Decides}
use Rattle.rules.proofs.Entering.{Entering}
use Rattle.rules.proofs.trees.entries.Given as goal

abbrev pub invariant-loop : goal.invariant-loop
invariant-loop g l =
    (test : List ℕ → Bool) → Decides (goal.F-post g l.keeps) test → Entering test l.rows l.n l.counter l.rest
