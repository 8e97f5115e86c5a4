-- The loop has read some sites and stored their rows, and those of their inputs (`Both`).
use Prim.Native.Nat.{◌/◌}
use lib.ListN.{length}
use Rattle.format.specs.File.{site}
use Rattle.format.specs.Rows.{site_row, input_row}
use Rattle.tables.proofs.Both.{Both}
use Rattle.callables.proofs.customs.site_rows.Given as goal

abbrev pub invariant-loop : goal.invariant-loop
invariant-loop l = Both 10 (length l.initial.t / 3) (site (length l.initial.inputs / 5)) site_row 3 input_row 5 l.s l.initial.at l.n l.initial.t l.t l.initial.inputs l.inputs l.at l.counter l.own l.used
