-- A count, then the records.
use Rattle.grammar.specs.Outcome.{◌>>=◌}
use Rattle.format.specs.File.{list, step}
use Rattle.format.specs.Rows.{step_row}
use Rattle.tables.proofs.Reading.{left_reads}
use Rattle.chains.proofs.step_list.Goals as goal

pub returns : goal.returns
unfolding list ◌>>=◌
returns c =
    rw c.in_ok-n.ensures (left_reads step_row (step c.args.mask) (λ x. x) c.args.s.now (λ x words is. is) _ _ _ _ _ c.records.ensures (λ at r post. post.1))
