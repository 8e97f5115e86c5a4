-- The tests decide, in the order of the definition.
use native.Mathlib.Omega.{arith}
use borrow.Author.Tests.{ne_eqb}
use Rattle.grammar.specs.Outcome.{◌>>=◌, pure, refuse}
use Rattle.grammar.specs.Combinators.{◌⇒◌∣◌}
use Rattle.format.specs.File.{access}
use Rattle.callables.proofs.functions.access.Goals as goal

pub returns-in-0 : goal.returns-in-0
unfolding access ◌⇒◌∣◌ ◌>>=◌ pure
returns-in-0 c =
    rw (c.in_ok-value.ensures, c.in-0.is)

pub returns-in-1 : goal.returns-in-1
unfolding access ◌⇒◌∣◌ ◌>>=◌ pure
returns-in-1 c =
    rw (c.in_ok-value.ensures, c.in-1.is)

pub returns-in_default : goal.returns-in_default
unfolding access ◌⇒◌∣◌ ◌>>=◌ refuse
returns-in_default c =
    rw (c.in_ok-value.ensures, ne_eqb c.in_ok-value.value 0 (omega arith), ne_eqb c.in_ok-value.value 1 (omega arith))
