-- Each read in its turn.
use Rattle.grammar.specs.Outcome.{◌>>=◌, pure}
use Rattle.chains.proofs.steps.method_step.Goals as goal

pub returns : goal.returns
unfolding ◌>>=◌ pure
returns c =
    rw (c.in_ok-name.ensures, c.in_ok-argc.ensures, c.in_ok-operand.ensures, c.in_ok-position.ensures)
