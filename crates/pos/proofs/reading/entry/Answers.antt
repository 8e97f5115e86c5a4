-- Neither test refuses the step.
use Rattle.std.proofs.Common.{◌+◌, ◌^◌, ◌<◌, arith, le-leb, lt-ltb}
use Rattle.grammar.specs.Outcome.{pure, ◌>>=◌}
use Rattle.grammar.specs.Combinators.{check}
use Rattle.pos.specs.Steps.{entry_at}
use Rattle.pos.proofs.reading.entry.Goals as goal

pub returns : goal.returns
unfolding entry_at check pure ◌>>=◌
returns c =
    let fits : c.args.address + c.in_ok-step.step < 2 ^ 32 = omega arith in
    rw (c.in_ok-step.ensures, le-leb _ _ c.if-step-least.false, lt-ltb _ _ fits) c.placed.ensures
