-- A table has at least as many rows as are used.
use Rattle.std.proofs.Common.{rules, ◌∙◌, ap, take, ◌/◌, ◌≤◌, length}
use Rattle.rows.proofs.Chunks.{take-chunks}
use Rattle.rows.proofs.row.cut.Goals as goal

pub returns : goal.returns
returns g c =
    let fits : c.args.used ≤ length c.args.t.now / g.row.N = search rules in
    ap (take c.args.used) c.as_chunks.ensures.front ∙ take-chunks g.row.N c.args.used (length c.args.t.now / g.row.N) c.args.t.now fits
