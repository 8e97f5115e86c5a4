-- The flags pass, and the tag decides.
use Rattle.grammar.specs.Outcome.{◌>>=◌, pure}
use Rattle.grammar.specs.Combinators.{check, ◌⇒◌∣◌}
use Rattle.format.specs.File.{step}
use borrow.Author.Tests.{eq-eqb}
use Rattle.chains.proofs.steps.step.Goals as goal

pub returns-in-1 : goal.returns-in-1
unfolding step check ◌⇒◌∣◌ ◌>>=◌ pure
returns-in-1 c =
    rw (c.in_ok-tag.ensures, c.in_ok-flags.ensures, eq-eqb _ _ c.if-flags-mask.false, c.in-1.is) c.index_step.ensures

pub returns-in-2 : goal.returns-in-2
unfolding step check ◌⇒◌∣◌ ◌>>=◌ pure
returns-in-2 c =
    rw (c.in_ok-tag.ensures, c.in_ok-flags.ensures, eq-eqb _ _ c.if-flags-mask.false, c.in-2.is) c.property_step.ensures

pub returns-in-3 : goal.returns-in-3
unfolding step check ◌⇒◌∣◌ ◌>>=◌ pure
returns-in-3 c =
    rw (c.in_ok-tag.ensures, c.in_ok-flags.ensures, eq-eqb _ _ c.if-flags-mask.false, c.in-3.is) c.method_step.ensures
