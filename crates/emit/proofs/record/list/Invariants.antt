-- The rows before j are put (`Listing`).
use Prim.Native.Nat.{◌+◌, ◌*◌}
use lib.ListN.{drop}
use Rattle.grammar.specs.Combinators.{put_all}
use Rattle.rows.specs.Back.{cut}
use Rattle.emit.proofs.Listing.{Listing}
use Rattle.emit.proofs.record.list.Given as goal

abbrev pub invariant-loop-j : goal.invariant-loop-j
invariant-loop-j g l =
    let bytes = g.R.Record.bytes l.kind in
    Listing bytes g.row.N l.t (put_all bytes (cut g.row.N l.n (drop (l.from * g.row.N) l.t))) l.initial.out l.initial.place l.j (l.from + l.n) l.out l.place
