-- A count, then the records.
use Rattle.grammar.specs.Outcome.{◌>>=◌}
use Rattle.format.specs.File.{list, tokens, string}
use Rattle.format.specs.Rows.{token_row}
use Rattle.tables.specs.Table.{rowed}
use Rattle.tables.proofs.Rows.{left_records, reads_rows}
use Rattle.sections.proofs.tokens.tokens.Goals as goal

pub returns : goal.returns
unfolding tokens list ◌>>=◌
returns c =
    rw c.in_ok-n.ensures (left_records token_row string _ _ _ _ _ _ _ _ _ _ (c.records.ensures c.args.s.now (rowed token_row string) (reads_rows _ c.args.s.now (rowed token_row string) (λ at r post. post.1))))
