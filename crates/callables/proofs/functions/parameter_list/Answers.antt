-- A count, then the records.
use Rattle.std.proofs.Common.{◌≡◌, ◌/◌, length, arith}
use Rattle.grammar.specs.Outcome.{◌>>=◌}
use Rattle.format.specs.File.{list, name_index}
use Rattle.format.specs.Rows.{parameter_row}
use Rattle.tables.proofs.Reading.{left_reads}
use Rattle.callables.proofs.functions.parameter_list.Goals as goal

pub returns : goal.returns
unfolding list ◌>>=◌
returns c =
    let each : length c.args.t.now / 1 ≡ length c.args.t.now = omega arith in
    rw (c.in_ok-n.ensures, ← each) (left_reads parameter_row name_index (λ name. name) c.args.s.now (λ name words is. is) _ _ _ _ _ c.records.ensures (λ at r post. post.1))
