-- The test decides.
use borrow.Author.Tests.{eq-eqb, ne_eqb}
use Rattle.fields.proofs.at_line.Goals as goal

pub returns-then-line-eq0 : goal.returns-then-line-eq0
returns-then-line-eq0 c =
    rw (eq-eqb c.args.line 0 c.if-line-eq0.true)

pub returns-else-line-eq0 : goal.returns-else-line-eq0
returns-else-line-eq0 c =
    rw (ne_eqb c.args.line 0 c.if-line-eq0.false)
