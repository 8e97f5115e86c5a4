-- A count, then the records.
use Rattle.grammar.specs.Outcome.{◌>>=◌}
use Rattle.format.specs.File.{list, assigns, assign}
use Rattle.format.specs.Rows.{assign_row}
use Rattle.tables.proofs.Reading.{left_reads}
use Rattle.sections.specs.Answers.{assign_at}
use Rattle.sections.proofs.assigns.assigns.Goals as goal

pub returns : goal.returns
unfolding assigns list ◌>>=◌
returns c =
    rw c.in_ok-n.ensures (left_reads assign_row assign (assign_at c.args.s.now) c.args.s.now (λ a words is. is) _ _ _ _ _ c.records.ensures (λ at r post. post.1))
