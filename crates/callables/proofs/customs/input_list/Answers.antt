-- A count, then the records.
use Rattle.grammar.specs.Outcome.{◌>>=◌}
use Rattle.format.specs.File.{list, input}
use Rattle.format.specs.Rows.{input_row}
use Rattle.tables.proofs.Reading.{left_reads}
use Rattle.callables.proofs.customs.input_list.Goals as goal

pub returns : goal.returns
unfolding list ◌>>=◌
returns c =
    rw c.in_ok-n.ensures (left_reads input_row input (λ i. i) c.args.s.now (λ i words is. is) _ _ _ _ _ c.records.ensures (λ at r post. post.1))
