-- The rows before j are counted (`Flat`).
use Rattle.sizes.proofs.Flat.{Flat}
use Rattle.sizes.proofs.record.rows.Given as goal

abbrev pub invariant-loop-j : goal.invariant-loop-j
invariant-loop-j g l = Flat (g.R.Counted.bytes l.kind) g.row.N l.t l.at l.used l.j l.place
