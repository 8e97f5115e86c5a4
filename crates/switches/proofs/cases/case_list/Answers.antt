-- A count, then the records.
use Rattle.grammar.specs.Outcome.{◌>>=◌}
use Rattle.format.specs.File.{list, case}
use Rattle.format.specs.Rows.{case_row}
use Rattle.tables.proofs.Reading.{left_reads}
use Rattle.switches.proofs.cases.case_list.Goals as goal

pub returns : goal.returns
unfolding list ◌>>=◌
returns c =
    rw c.in_ok-n.ensures (left_reads case_row (case c.args.tops) (λ x. x) c.args.s.now (λ x words is. is) _ _ _ _ _ c.records.ensures (λ at r post. post.1))
