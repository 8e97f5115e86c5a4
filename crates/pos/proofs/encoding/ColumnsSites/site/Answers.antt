-- A place among the sites is one of each slice.
use Rattle.std.proofs.Common.{sym, arith}
use Rattle.pos.proofs.Sites.{sites-within, sites_at}
use Rattle.pos.proofs.encoding.ColumnsSites.site.Goals as goal

pub offset_bounds-self-k : goal.offset_bounds-self-k
offset_bounds-self-k c =
    omega (arith, (sites-within c.args.self.now.addresses.now c.args.self.now.lines.now c.args.self.now.columns.now).0)

pub bounds-self-k : goal.bounds-self-k
bounds-self-k c =
    omega (arith, c.requires, (sites-within c.args.self.now.addresses.now c.args.self.now.lines.now c.args.self.now.columns.now).0)

pub offset_bounds-self-k-2 : goal.offset_bounds-self-k-2
offset_bounds-self-k-2 c =
    omega (arith, (sites-within c.args.self.now.addresses.now c.args.self.now.lines.now c.args.self.now.columns.now).1.0)

pub bounds-self-k-2 : goal.bounds-self-k-2
bounds-self-k-2 c =
    omega (arith, c.requires, (sites-within c.args.self.now.addresses.now c.args.self.now.lines.now c.args.self.now.columns.now).1.0)

pub offset_bounds-self-k-3 : goal.offset_bounds-self-k-3
offset_bounds-self-k-3 c =
    omega (arith, (sites-within c.args.self.now.addresses.now c.args.self.now.lines.now c.args.self.now.columns.now).1.1)

pub bounds-self-k-3 : goal.bounds-self-k-3
bounds-self-k-3 c =
    omega (arith, c.requires, (sites-within c.args.self.now.addresses.now c.args.self.now.lines.now c.args.self.now.columns.now).1.1)

pub returns : goal.returns
returns c =
    sym (sites_at _ _ _ _ _ c.requires)
