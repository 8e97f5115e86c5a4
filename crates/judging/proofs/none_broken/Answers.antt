-- Where one test fails nothing is said; where all hold, so do the ten rules.
use native.Mathlib.Omega.{arith}
use Rattle.judging.proofs.Once.{none-broken}
use Rattle.judging.proofs.none_broken.Goals as goal

pub returns-then-callables_keep : goal.returns-then-callables_keep
returns-then-callables_keep c = grind (arith, none-broken)
