-- The least of the three lengths.
use Rattle.std.proofs.Common.{ℕ, List, arith}
use Rattle.pos.proofs.Sites.{sites-within, sites-length}
use Rattle.pos.proofs.encoding.ColumnsSites.count.Goals as goal

pub returns : goal.returns
returns c =
    let a : List ℕ = c.args.self.now.addresses.now in
    let l : List ℕ = c.args.self.now.lines.now in
    let n : List ℕ = c.args.self.now.columns.now in
    let w = sites-within a l n in
    omega (arith, w.0, w.1.0, w.1.1, sites-length a l n c.min-2.result (omega arith) (omega arith) (omega arith))
