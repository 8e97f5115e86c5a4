-- The loop stands by its law (Keying), for each test that the closure decides.
use Rattle.std.proofs.Common.{ℕ, Bool, List, length}
use Rattle.rules.specs.Walks.{Decides}
use Rattle.rules.proofs.Keying.{Keying}
use Rattle.rules.proofs.trees.keys.Given as goal

abbrev pub invariant-loop-row : goal.invariant-loop-row
invariant-loop-row g l = (test : List ℕ → Bool) → Decides (goal.F-post g l.keeps) test → Keying test l.rows l.rest

abbrev pub decreases-loop-row : goal.decreases-loop-row
decreases-loop-row g l = length l.rest
